-- `digits::number_of` meets its contract. The invariant: the number so far is below 16 to the digits passed, so that sixteen of them fit,
-- and what it comes to with the rest is what all digits come to. Assumes nothing.
use Prim.Native.Nat.{◌^◌, ◌<◌}
use mathlib.Core.Path.{◌≡◌}
use lib.ListN.{drop}
use Rattle.digits.specs.Digits.{number_from}
use Rattle.digits.proofs.number_of.Given as goal

abbrev pub invariant-loop-byte : goal.invariant-loop-byte
invariant-loop-byte l = record {
  below : l.n < 16 ^ l.byte-index;
  same : number_from l.n (drop l.byte-index l.digits) ≡ number_from 0 l.digits;
}
