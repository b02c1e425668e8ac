-- `float::log::ln` meets its contract. Assumes nothing.
use mathlib.Core.Path.{◌≡◌, sym, ap, ◌∙◌, subst}
use mathlib.Core.Bool.{Bool, true}
use Prim.Native.Nat.{ℕ, ◌+◌, ◌-◌, ◌*◌, ◌/◌, ◌%◌, ◌^◌, ◌≤◌}
use native.Mathlib.Nat.{mod-lt}
use native.Mathlib.Omega.{arith}
use lib.Dec.{T}
use lib.Pow.{pow_pos}
use lib.Ieee.{binary64, fits, le, div, of_bits, to_bits}
use Rattle.float.specs.Log.{least, most, of_parts, of_row, difference, fallen, reciprocal, minus_log, ln2}
use Rattle.float.proofs.LogRange.{not_nan, Inside, inside, ln_in, ln_low, ln_high}
use Rattle.float.proofs.LogRows.{Lacks, lacks}
use Rattle.float.proofs.log.ln.Goals as goal
use Rattle.float.proofs.log.ln.Goals.{After-saturating_sub, After-saturating_sub-then-x-2, After-row-c, Start, Then-x-2}

is_T : (b : Bool) → b ≡ true → T b
is_T b e = subst T (sym e) tt

held : (c : Start) → T (fits binary64 c.args.x)
held c = subst T (sym c.well_formed.0.1) tt

in-of : (c : Then-x-2) → Inside c.args.x
in-of c =
    let x = c.args.x in
    inside x (held c.before.before) (is_T (le least x) c.if-x.true) (is_T (le x most) c.if-x-2.true)

pub float_to_bits-b : goal.float_to_bits-b
float_to_bits-b c = not_nan c.args.x (is_T (le least c.args.x) c.if-x.true)

-- the digits, and what they and the row's reciprocal lack to 2 ^ 60
lacks-of : (c : After-row-c) → Lacks (2 ^ 52 + to_bits binary64 c.args.x % 2 ^ 52) (c.row-c.result / 2 ^ 56)
lacks-of c =
    let t = to_bits binary64 c.args.x % 2 ^ 52 in
    in_row t _ (c.row-c.result / 2 ^ 56) c.row-c.ensures.0 (omega arith) (lacks t (mod-lt (to_bits binary64 c.args.x) (pow_pos 52)))
  where
    in_row : (t j r : ℕ) → r ≡ reciprocal j → j ≡ t / 2 ^ 46 → Lacks (2 ^ 52 + t) (reciprocal (t / 2 ^ 46)) → Lacks (2 ^ 52 + t) r
    in_row t j r e k L = subst (λ (n : ℕ). Lacks (2 ^ 52 + t) n) (sym (e ∙ ap reciprocal k)) L

pub overflow_mul-z : goal.overflow_mul-z
overflow_mul-z c = omega (arith, (lacks-of (goal.at.overflow_mul-z c).After-row-c).part)

pub overflow_sub-z : goal.overflow_sub-z
overflow_sub-z c = (lacks-of (goal.at.overflow_sub-z c).After-row-c).part

pub overflow_mul-z-then-x-2 : goal.overflow_mul-z-then-x-2
overflow_mul-z-then-x-2 c = omega (arith, (lacks-of (goal.at.overflow_mul-z-then-x-2 c).After-row-c).small)

pub fallen-s-requires : goal.fallen-s-requires
fallen-s-requires c = omega (arith, (lacks-of (goal.at.fallen-s-requires c).After-row-c).small)

-- the exponent's field, above 1023 and under 1023
up_of : (c : After-saturating_sub) → c.saturating_sub.result ≤ 6
up_of c = let i = in-of c.before.before.before in omega (arith, c.saturating_sub.ensures, i.of.field, i.high)

down-of : (c : After-saturating_sub-then-x-2) → c.saturating_sub-then-x-2.result ≤ 27
down-of c = let i = in-of c.before.before.before.before in omega (arith, c.saturating_sub-then-x-2.ensures, i.of.field, i.low)

pub overflow_mul-saturating_sub : goal.overflow_mul-saturating_sub
overflow_mul-saturating_sub c = omega (arith, up_of (goal.at.overflow_mul-saturating_sub c).After-saturating_sub)

pub overflow_add-c : goal.overflow_add-c
overflow_add-c c = omega (arith, up_of (goal.at.overflow_add-c c).After-saturating_sub)

pub overflow_mul-saturating_sub-then-x-2 : goal.overflow_mul-saturating_sub-then-x-2
overflow_mul-saturating_sub-then-x-2 c = omega (arith, down-of (goal.at.overflow_mul-saturating_sub-then-x-2 c).After-saturating_sub-then-x-2)

pub overflow_add-s : goal.overflow_add-s
overflow_add-s c = omega (arith, down-of (goal.at.overflow_add-s c).After-saturating_sub-then-x-2)

pub difference-requires : goal.difference-requires
difference-requires c = (omega (arith, up_of (goal.at.difference-requires c).After-saturating_sub), omega (arith, down-of (goal.at.difference-requires c).After-saturating_sub-then-x-2))

pub returns-then-x-2 : goal.returns-then-x-2
unfolding of_parts of_row
returns-then-x-2 c =
    let x = c.args.x in
    let e = to_bits binary64 x / 2 ^ 52 in
    let t = to_bits binary64 x % 2 ^ 52 in
    let k = reciprocal (t / 2 ^ 46) in
    c.difference.ensures
    ∙ ap (λ (n : ℕ). difference (c.row-c.result % 2 ^ 56 + n * ln2) (c.fallen-s.result / 2 ^ 8 + c.saturating_sub-then-x-2.result * ln2)) c.saturating_sub.ensures
    ∙ ap (λ (n : ℕ). difference (c.row-c.result % 2 ^ 56 + (e - 1023) * ln2) (c.fallen-s.result / 2 ^ 8 + n * ln2)) c.saturating_sub-then-x-2.ensures
    ∙ ap (λ (n : ℕ). difference (n + (e - 1023) * ln2) (c.fallen-s.result / 2 ^ 8 + (1023 - e) * ln2)) c.row-c.ensures.1
    ∙ ap (λ (n : ℕ). difference (minus_log k + (e - 1023) * ln2) (n / 2 ^ 8 + (1023 - e) * ln2)) (c.fallen-s.ensures ∙ ap (λ (r : ℕ). fallen ((2 ^ 60 - (2 ^ 52 + t) * r) * 2 ^ 4)) c.row-c.ensures.0)
    ∙ sym (ln_in x c.if-x.true c.if-x-2.true)

pub returns-else-x-2 : goal.returns-else-x-2
unfolding div of_bits
returns-else-x-2 c = sym (ln_high c.args.x c.if-x-2.false)

pub returns-else-x : goal.returns-else-x
unfolding div of_bits
returns-else-x c = sym (ln_low c.args.x c.if-x.false)
