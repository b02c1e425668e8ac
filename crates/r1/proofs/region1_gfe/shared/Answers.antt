-- `r1::region1_gfe::shared` meets its contract: what is left out changes nothing of what is read. Assumes nothing.
use mathlib.Core.Path.{◌≡◌, ◌∙◌, sym, ap}
use lib.Ieee.{neg, of_bits}
use Rattle.float.specs.Decimal.{rounded}
use Rattle.polynomial.specs.Kinds.{OnlyLaws}
use Rattle.polynomial.specs.declared.Sums.{Sums}
use Rattle.polynomial.proofs.Components.{sums_only}
use Rattle.r1.specs.Region1.{derivatives, turned, vi, vj, terms}
use Rattle.r1.proofs.region1_gfe.shared.Goals as goal

-- of sums that are read alike, the same is read once they are turned
turned_alike : (only : Sums → Sums) → OnlyLaws only → (s t : Sums) → only s ≡ only t → only (turned s) ≡ only (turned t)
turned_alike only laws s t e = sym (turn s) ∙ ap (λ (x : Sums). only (turned x)) e ∙ turn t
  where
    turn : (x : Sums) → only (turned (only x)) ≡ only (turned x)
    turn x = laws.of_each (λ y. y) neg (λ y. y) (λ y. y) neg (λ y. y) x

pub returns : goal.returns
unfolding derivatives rounded of_bits
returns g c =
    let r = g.R.Read in
    let a = c.args in
    rw (c.only.ensures, c.turned.ensures, c.polys_powi_steps-s.ensures, c.terms.ensures, c.of.ensures, c.of-2.ensures)
    (turned_alike r.only r.laws _ _ (sums_only (vi a.pi) (vj a.tau) terms r.only r.laws))
