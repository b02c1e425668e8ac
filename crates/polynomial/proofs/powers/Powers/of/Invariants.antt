-- `polynomial::powers::Powers::of` meets its contract: each turn doubles how many powers are there (`Doubling`). Assumes nothing.
use Rattle.polynomial.proofs.Doubling.{Doubled}
use Rattle.polynomial.proofs.powers.Powers.of.Given as goal

abbrev pub invariant-loop-h : goal.invariant-loop-h
invariant-loop-h l = Doubled l.x l.kept l.high l.sq l.h
