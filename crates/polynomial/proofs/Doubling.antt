-- The powers from 2^h up to 2^(h+1) are those below 2^h, each times x squared h times: document 01's whole power takes the highest digit's squaring last. Assumes nothing.
use Prim.Native.Nat.{ℕ, zero, suc, ◌+◌, ◌*◌, ◌/◌, ◌%◌, ◌^◌, ◌≤◌, ◌<◌}
use mathlib.Core.Path.{◌≡◌, refl, sym, ◌∙◌, ap, subst}
use mathlib.Core.Bool.{Bool, true, false, cond}
use mathlib.Core.List.{List}
use native.Mathlib.Nat.{pow-zero, pow-suc, le_refl}
use native.Mathlib.Omega.{arith}
use lib.Dec.{T, eqb, eqb→eq}
use lib.ListN.{length, get_or, set}
use lib.Seq.{ext_get_or, get_or-set_same, get_or-set_other}
use lib.Ieee.{Float, nan}
use borrow.Author.Tests.{eq-eqb}
use Rattle.exact.specs.Operations.{◌⊗◌}
use Rattle.float.specs.Power.{one, squaring, raised}
use Rattle.float.proofs.Squaring.{taken, turn, end}
use Rattle.polynomial.specs.Powers.{squared, Filled, powers_from, powers}

-- a turn, also where the exponent is 0
turn_any : (t i : ℕ) (r b : Float) → i ≤ t → (u : ℕ) × (i / 2 ≤ u) × (squaring t i r b ≡ squaring u (i / 2) (taken i r b) (b ⊗ b))
turn_any t zero r b l = (zero, omega arith, end t zero r b refl ∙ sym (end zero (zero / 2) (taken zero r b) (b ⊗ b) (omega arith)))
turn_any t (suc i) r b l = turn t (suc i) r b (λ (e : suc i ≡ 0). omega arith) l

same_digit : (n i : ℕ) (r b : Float) → n % 2 ≡ i % 2 → taken n r b ≡ taken i r b
same_digit n i r b e = ap (λ (d : ℕ). cond (eqb d 1) (r ⊗ b) r) e

pub doubling : (h n i t u : ℕ) (r b : Float) → i < 2 ^ h → n ≡ 2 ^ h + i → n ≤ t → i ≤ u → squaring t n r b ≡ squaring u i r b ⊗ squared h b
unfolding squared
doubling zero n i t u r b l e m k =
    let p : 2 ^ 0 ≡ 1 = pow-zero 2 in
    let z : i ≡ 0 = omega arith in
    let o : n ≡ 1 = omega arith in
    let s = turn t n r b (λ (q : n ≡ 0). omega arith) m in
    s.2 ∙ end s.0 (n / 2) (taken n r b) (b ⊗ b) (omega arith)
    ∙ same_digit n 1 r b (ap (λ (d : ℕ). d % 2) o)
    ∙ ap (λ (y : Float). y ⊗ b) (sym (end u i r b z))
doubling (suc h) n i t u r b l e m k =
    let p : 2 ^ suc h ≡ 2 * 2 ^ h = rw pow-suc (omega arith) in
    let a = halves (2 ^ h) n i (subst (λ (w : ℕ). i < w) p l) (e ∙ ap (λ (w : ℕ). w + i) p) in
    let s = turn_any t n r b m in
    let v = turn_any u i r b k in
    s.2
    ∙ ap (λ (y : Float). squaring s.0 (n / 2) y (b ⊗ b)) (same_digit n i r b a.2)
    ∙ doubling h (n / 2) (i / 2) s.0 v.0 (taken i r b) (b ⊗ b) a.0 a.1 s.1 v.1
    ∙ ap (λ (y : Float). y ⊗ squared h (b ⊗ b)) (sym v.2)
  where
    halves : (w n i : ℕ) → i < 2 * w → n ≡ 2 * w + i → (i / 2 < w) × (n / 2 ≡ w + i / 2) × (n % 2 ≡ i % 2)
    halves w n i l e = (omega arith, omega arith, omega arith)

-- the power at 2^h + i
pub next_power : (x : Float) (h i : ℕ) → i < 2 ^ h → raised x (2 ^ h + i) ≡ raised x i ⊗ squared h x
unfolding raised
next_power x h i l = doubling h (2 ^ h + i) i (2 ^ h + i) i one x l refl (le_refl _) (le_refl _)

-- one power more
pub filled_next : (x sq : Float) (h high i : ℕ) (q : List Float) → length q ≡ 64 → high ≡ 2 ^ h → high ≤ 32 → sq ≡ squared h x → i < high
    → Filled x q (high + i) → Filled x (set q (high + i) (get_or q i nan ⊗ sq)) (high + (i + 1))
filled_next x sq h high i q len p l s b f k m = at (eqb k (high + i)) refl
  where
    new : Float
    new = get_or q i nan ⊗ sq

    at : (t : Bool) → eqb k (high + i) ≡ t → get_or (set q (high + i) new) k nan ≡ raised x k
    at true e =
        let z : k ≡ high + i = eqb→eq k (high + i) (subst T (sym e) tt) in
        ap (λ (j : ℕ). get_or (set q (high + i) new) j nan) z
        ∙ get_or-set_same q (high + i) new nan (omega arith)
        ∙ ap (λ (y : Float). y ⊗ sq) (f i (omega arith))
        ∙ ap (λ (y : Float). raised x i ⊗ y) s
        ∙ sym (next_power x h i (subst (λ (w : ℕ). i < w) p b))
        ∙ ap (raised x) (ap (λ (w : ℕ). w + i) (sym p) ∙ sym z)
    at false e =
        let other : k ≡ high + i → ⊥ = λ (z : k ≡ high + i). subst T (sym (eq-eqb k (high + i) z) ∙ e) tt in
        get_or-set_other q (high + i) k new nan other ∙ f k (omega (arith, other))

-- x to the 0
pub first_power : (x : Float) (kept : ℕ → Float) → kept 0 ≡ one → (k : ℕ) → k < 1 → kept k ≡ raised x k
unfolding raised squaring
first_power x kept e zero l = e
first_power x kept e (suc k) l = absurd (omega arith)

-- ---- the array of all of them

at_place : (x : Float) (n k i : ℕ) → i < n → get_or (powers_from x n k) i nan ≡ raised x (i + k)
unfolding powers_from
at_place x zero k i l = absurd (omega arith)
at_place x (suc n) k zero l = ap (raised x) (omega arith)
at_place x (suc n) k (suc i) l = at_place x n (suc k) i (omega arith) ∙ ap (raised x) (omega arith)

pub power_at : (x : Float) (i : ℕ) → i < 64 → get_or (powers x) i nan ≡ raised x i
unfolding powers
power_at x i l = at_place x 64 0 i l ∙ ap (raised x) (omega arith)

-- no other array of 64 holds each power at its exponent
pub all_filled : (x : Float) (ps : List Float) → length ps ≡ 64 → Filled x ps 64 → ps ≡ powers x
unfolding powers
all_filled x ps e f = ext_get_or nan ps (powers x) e (λ i l. let m : i < 64 = omega arith in f i m ∙ sym (power_at x i m))

-- ---- the next doubling
pub high_within : (h : ℕ) → h < 6 → 2 ^ h ≤ 32
high_within zero l = omega arith
high_within (suc zero) l = omega arith
high_within (suc (suc zero)) l = omega arith
high_within (suc (suc (suc zero))) l = omega arith
high_within (suc (suc (suc (suc zero)))) l = omega arith
high_within (suc (suc (suc (suc (suc zero))))) l = omega arith
high_within (suc (suc (suc (suc (suc (suc h)))))) l = absurd (omega arith)

pub next_squared : (h : ℕ) (x : Float) → squared h x ⊗ squared h x ≡ squared (suc h) x
unfolding squared
next_squared zero x = refl
next_squared (suc h) x = next_squared h (x ⊗ x)

-- what holds before the turn at h
pub record Doubled (x : Float) (ps : List Float) (high : ℕ) (sq : Float) (h : ℕ) : Type 0 where
  pub within : h ≤ 6
  pub power : high ≡ 2 ^ h
  pub square : sq ≡ squared h x
  pub long : length ps ≡ 64
  pub filled : Filled x ps high

pub doubled_next : {x : Float} {ps qs : List Float} {high : ℕ} {sq : Float} {h : ℕ} → Doubled x ps high sq h → h < 6 → length qs ≡ 64 → Filled x qs (high + high) → Doubled x qs (high + high) (sq ⊗ sq) (h + 1)
doubled_next {x} {ps} {qs} {high} {sq} {h} d l long f =
    let e : h + 1 ≡ suc h = omega arith in
    let p : 2 ^ suc h ≡ 2 * 2 ^ h = rw pow-suc (omega arith) in
    let m = d.power in
    let to : high + high ≡ 2 ^ suc h = omega arith in
    record {
      within = omega arith;
      power = to ∙ ap (λ (n : ℕ). 2 ^ n) (sym e);
      square = ap (λ (y : Float). y ⊗ sq) d.square ∙ ap (λ (y : Float). squared h x ⊗ y) d.square ∙ next_squared h x ∙ ap (λ (n : ℕ). squared n x) (sym e);
      long = long;
      filled = f;
    }
