-- Reading digits: one and no other byte for each value, one after the other, how large the next number can get, and that what `{:016x}` writes is read back. Assumes nothing.
use Prim.Native.Nat.{ℕ, zero, suc, ◌+◌, ◌-◌, ◌*◌, ◌/◌, ◌%◌, ◌^◌, ◌≤◌, ◌<◌}
use mathlib.Core.Path.{◌≡◌, refl, sym, ap, ◌∙◌}
use mathlib.Core.Bool.{Bool, true, false, cond}
use mathlib.Core.Logic.{◌⊎◌}
use mathlib.Core.List.{List, [], ◌∷◌, ◌++◌, append_assoc, append-nil}
use native.Mathlib.Nat.{pow-zero, pow-suc, lt_of_lt_of_le, pow-le-pow_right}
use native.Mathlib.Numerals.{add-one}
use native.Mathlib.Omega.{arith}
use borrow.Author.Tests.{ltb-true, ltb-false, le-ltb, ne_eqb}
use lib.Dec.{ltb, lit<}
use lib.ListN.{length, drop, get_or, replicate, length-append, length-replicate}
use lib.Seq.{drop-cons}
use Rattle.std.specs.Fmt.{digits, digits_onto, format_spec, padded_integral, char_count}
use Rattle.std.proofs.lemmas.List.{replicate_more}
use Rattle.std.specs.Prelude.{Some, None}
use Rattle.std.proofs.lemmas.Bool.Decides.{nat_tests}
use Rattle.digits.specs.Digits.{digit_of, number_from, number_of}

-- ---- how a number is written
-- the ASCII code of a digit below 16: `0` to `9`, then `a` to `f`
abbrev pub hex_digit_ascii : ℕ → ℕ
hex_digit_ascii d = cond (ltb d 10) (48 + d) (87 + d)

-- the last k digits of n in base b, the most significant first
abbrev pub last_digits : ℕ → ℕ → ℕ → List ℕ
last_digits b zero n = []
last_digits b (suc k) n = last_digits b k (n / b) ++ (hex_digit_ascii (n % b) ∷ [])

-- ---- one digit
digit_cases : (b d : ℕ) → digit_of b ≡ Some d → ((48 ≤ b) × (b ≤ 57) × (d ≡ b - 48)) ⊎ ((97 ≤ b) × (b ≤ 102) × (d ≡ b - 97 + 10))
digit_cases b d h = grind (arith, nat_tests)

pub digit_small : (b d : ℕ) → digit_of b ≡ Some d → d < 16
digit_small b d h = let e = digit_cases b d h in omega arith

-- the digit that is written for d is read as d
pub digit_back : (d : ℕ) → d < 16 → digit_of (hex_digit_ascii d) ≡ Some d
digit_back d h = grind (arith, nat_tests)

-- and no other byte is read as d
pub digit_only : (b d : ℕ) → digit_of b ≡ Some d → b ≡ hex_digit_ascii d
digit_only b d h = let e = digit_cases b d h in grind (arith, nat_tests)

-- ---- the digit at i, in a loop
module _ (bs : List ℕ) (n i : ℕ) (h : i < length bs) where
  pub stops : digit_of (get_or bs i 0) ≡ None → None ≡ number_from n (drop i bs)
  unfolding number_from
  stops e = rw (drop-cons bs i 0, e)

  pub goes_on : (d : ℕ) → digit_of (get_or bs i 0) ≡ Some d → number_from (n * 16 + d) (drop (i + 1) bs) ≡ number_from n (drop i bs)
  unfolding number_from
  goes_on d e = rw (drop-cons bs i 0, e, add-one)

-- ---- the size of a number by its digits
pub larger : (n d k : ℕ) → n < 16 ^ k → d < 16 → n * 16 + d < 16 ^ (k + 1)
larger n d k p q = rw (add-one, pow-suc) (go (16 ^ k) p)
  where
    go : (m : ℕ) → n < m → n * 16 + d < m * 16
    go m h = omega arith

-- a number of fewer than sixteen digits has room for one more
pub room : (n i : ℕ) → n < 16 ^ i → i < 16 → n < 16 ^ 15
room n i h l = let most : i ≤ 15 = omega arith in lt_of_lt_of_le h (pow-le-pow_right (lit< tt) most)

-- ---- what is written is read back
back_from : (k n m : ℕ) (rest : List ℕ) → n < 16 ^ k → number_from m (last_digits 16 k n ++ rest) ≡ number_from (m * 16 ^ k + n) rest
unfolding number_from
back_from zero n m rest h = ap (λ (j : ℕ). number_from j rest) (rw pow-zero (go (rw pow-zero at h)))
  where
    go : n < 1 → m ≡ m * 1 + n
    go l = omega arith
back_from (suc k) n m rest h =
    rw append_assoc
    (back_from k (n / 16) m (hex_digit_ascii (n % 16) ∷ rest) (shorter (16 ^ k) (rw pow-suc at h))
    ∙ rw (digit_back (n % 16) (omega arith), pow-suc) (ap (λ (j : ℕ). number_from j rest) (joined (16 ^ k))))
  where
    shorter : (p : ℕ) → n < p * 16 → n / 16 < p
    shorter p l = omega arith

    joined : (p : ℕ) → (m * p + n / 16) * 16 + n % 16 ≡ m * (p * 16) + n
    joined p = omega arith

written_length : (k n : ℕ) → length (last_digits 16 k n) ≡ k
written_length zero n = refl
written_length (suc k) n = length-append (last_digits 16 k (n / 16)) (hex_digit_ascii (n % 16) ∷ []) ∙ rw (written_length k (n / 16), add-one)

pub reads_back : (k n : ℕ) → k ≤ 16 → n < 16 ^ k → number_of (last_digits 16 k n) ≡ Some n
unfolding number_from
reads_back k n h l =
    rw (le-ltb 16 (length (last_digits 16 k n)) (rw (written_length k n) h))
    (ap (number_from 0) (sym (append-nil (last_digits 16 k n))) ∙ back_from k n 0 [] l ∙ ap Some (zero-mul-add (16 ^ k)))
  where
    zero-mul-add : (p : ℕ) → 0 * p + n ≡ n
    zero-mul-add p = omega arith

-- ---- what `{:016x}` writes is the last sixteen digits
zeros : (k : ℕ) → last_digits 16 k 0 ≡ replicate k 48
zeros zero = refl
zeros (suc k) = rw (zeros k) (replicate_more k 48 ∙ rw add-one refl)

-- k digits of n and then the rest are zeros and what the loop of digits makes of them
record Filled (k n : ℕ) (rest made : List ℕ) : Type 0 where
  count : ℕ
  same : last_digits 16 k n ++ rest ≡ replicate count 48 ++ made

filled : (k n left : ℕ) (rest : List ℕ) → n < 16 ^ (suc k) → k < left → Filled (suc k) n rest (digits_onto left 16 false n rest)
filled k n zero rest h l = absurd (omega arith)
filled zero n (suc left) rest h l = record { count = 0; same = rw e refl }
  where
    e : n / 16 ≡ 0
    e = omega (arith, h)
filled (suc k) n (suc left) rest h l = go (ltb n 16) refl (filled k (n / 16) left (hex_digit_ascii (n % 16) ∷ rest) (front (16 ^ suc k) (rw pow-suc at h)) (omega arith))
  where
    front : (p : ℕ) → n < p * 16 → n / 16 < p
    front p m = omega arith

    above : 16 ≤ n → n / 16 ≡ 0 → ⊥
    above m e = omega arith

    go :
        (t : Bool)
        → ltb n 16 ≡ t
        → Filled (suc k) (n / 16) (hex_digit_ascii (n % 16) ∷ rest) (digits_onto left 16 false (n / 16) (hex_digit_ascii (n % 16) ∷ rest))
        → Filled (suc (suc k)) n rest (digits_onto (suc left) 16 false n rest)
    go true e f =
        let m : n < 16 = ltb-true n 16 e in
        let none : n / 16 ≡ 0 = omega arith in
        record { count = suc k; same = rw none (rw (zeros (suc k)) (append_assoc (replicate (suc k) 48) (hex_digit_ascii (n % 16) ∷ []) rest)) }
    go false e f =
        let m : 16 ≤ n = ltb-false n 16 e in
        record {
          count = f.count;
          same = append_assoc (last_digits 16 (suc k) (n / 16)) (hex_digit_ascii (n % 16) ∷ []) rest ∙ rw (ne_eqb (n / 16) 0 (above m)) f.same;
        }

-- so zeros up to k digits give the last k of n
padded_out : (k left n : ℕ) (made : List ℕ) → n < 16 ^ (suc k) → k < left → made ≡ digits_onto left 16 false n [] → replicate (suc k - length made) 48 ++ made ≡ last_digits 16 (suc k) n
padded_out k left n made h l e =
    let f = filled k n left [] h l in
    let whole : last_digits 16 (suc k) n ≡ replicate f.count 48 ++ made =
    sym (append-nil (last_digits 16 (suc k) n)) ∙ f.same ∙ ap (λ (x : List ℕ). replicate f.count 48 ++ x) (sym e) in
    let long : suc k ≡ f.count + length made =
    sym (written_length (suc k) n) ∙ ap length whole ∙ length-append (replicate f.count 48) made ∙ ap (λ (j : ℕ). j + length made) (length-replicate f.count 48) in
    let left_out : suc k - length made ≡ f.count = omega (arith, long) in
    rw left_out (sym whole)

-- under the options 0 and width, the digits stand after zeros up to the width
padded_with : (width : ℕ) (made : List ℕ) → padded_integral (format_spec 32 0 4 width (2 ^ 64 - 1)) false [] made ≡ replicate (width - length made) 48 ++ made
unfolding padded_integral char_count
padded_with width made =
    let e : width - length made - 0 - 0 ≡ width - length made = omega arith in
    ap (λ (j : ℕ). replicate j 48 ++ (made ++ [])) e ∙ ap (λ (x : List ℕ). replicate (width - length made) 48 ++ x) (append-nil made)

looped : (n : ℕ) → digits 16 false n ≡ digits_onto 64 16 false n []
unfolding digits
looped n = refl

pub written : (n : ℕ) → n < 16 ^ 16 → padded_integral (format_spec 32 0 4 16 (2 ^ 64 - 1)) false [] (digits 16 false n) ≡ last_digits 16 16 n
written n h = padded_with 16 (digits 16 false n) ∙ padded_out 15 64 n (digits 16 false n) h (omega arith) (looped n)

-- and it is read back
pub reads_written : (n : ℕ) → n < 2 ^ 64 → number_of (padded_integral (format_spec 32 0 4 16 (2 ^ 64 - 1)) false [] (digits 16 false n)) ≡ Some n
reads_written n h = ap number_of (written n (omega arith)) ∙ reads_back 16 n (omega arith) (omega arith)
