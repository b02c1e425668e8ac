-- Laws of a table and of what is folded over it: its next row, its end, its parts, and the sum over its tiles. Assumes nothing.
use Prim.Native.Nat.{ℕ, zero, suc, ◌+◌, ◌-◌, ◌≤◌, ◌<◌, min}
use mathlib.Core.Path.{◌≡◌, ◌∙◌, refl, ap, sym, subst}
use mathlib.Core.List.{List, [], ◌∷◌, map, foldl-append}
use native.Mathlib.Numerals.{add-one}
use native.Mathlib.Omega.{arith}
use lib.Dec.{T}
use lib.IntN.{ℤ, pos}
use lib.Ieee.{Float, nan}
use lib.Ieee.Fits.{and_i, and_l, and_r}
use lib.ListN.{length, get_or, take, drop, drop_of_length-le, length-take, length-drop}
use lib.Seq.{drop-cons, take-add, take_all}
use mir.Syntax.{w32}
use mir.Val.{to_z, of_z}
use mir.Facts.{to_z-of_z}
use Rattle.polynomial.specs.Terms.{Row, row}
use Rattle.polynomial.specs.Sums.{over}
use Rattle.polynomial.specs.Tables.{rows, part, in_range, all_in_range, Columns}
use Rattle.polynomial.proofs.Exponents.{in_range_fits}

-- ---- the columns of a table

rows_end_2 : (is : List ℤ) (ns : List Float) → rows is [] ns ≡ []
unfolding rows
rows_end_2 [] ns = refl
rows_end_2 (i ∷ is) ns = refl

rows_end_3 : (is js : List ℤ) → rows is js [] ≡ []
unfolding rows
rows_end_3 [] js = refl
rows_end_3 (i ∷ is) [] = refl
rows_end_3 (i ∷ is) (j ∷ js) = refl

module _ (is js : List ℤ) (ns : List Float) (k : ℕ) where
  -- the row at k, and those after it
  pub next_row : (i j : ℤ) (n : Float) → k < length is → k < length js → k < length ns
      → rows (drop k is) (drop k js) (drop k ns) ≡ row (get_or is k i) (get_or js k j) (get_or ns k n) ∷ rows (drop (k + 1) is) (drop (k + 1) js) (drop (k + 1) ns)
  unfolding rows
  next_row i j n hi hj hn = rw (drop-cons is k i hi, drop-cons js k j hj, drop-cons ns k n hn, add-one)

  -- no row is left where the first column ends
  pub no_row : length is ≤ k → rows (drop k is) (drop k js) (drop k ns) ≡ []
  unfolding rows
  no_row h = rw (drop_of_length-le is h)

-- ---- a loop over the columns

module _ {S : Type 0} (f : S → Row → S) (s₀ : S) (is js : List ℤ) (ns : List Float) where
  -- What holds before the turn at k, with the state s: the rows from k on, taken by s, give what all rows give, taken by s₀.
  pub record Left (s : S) (k : ℕ) : Type 0 where
    pub within : k ≤ length is
    pub same : over f s (rows (drop k is) (drop k js) (drop k ns)) ≡ over f s₀ (rows is js ns)

  pub starts : Left s₀ 0
  starts = record { within = omega arith; same = refl }

  pub goes_on : {s t : S} {k : ℕ} → Columns is js ns → Left s k → k < length is → t ≡ f s (row (get_or is k (pos 0)) (get_or js k (pos 0)) (get_or ns k nan)) → Left t (k + 1)
  unfolding over
  goes_on {s} {t} {k} c v h e =
      let j = c.as_long_j in
      let n = c.as_long_n in
      record {
        within = omega arith;
        same = rw e (sym (ap (over f s) (next_row is js ns k (pos 0) (pos 0) nan h (omega arith) (omega arith))) ∙ v.same);
      }

  pub ends : {s : S} {k : ℕ} → Left s k → length is ≤ k → s ≡ over f s₀ (rows is js ns)
  unfolding over
  ends {s} {k} v h = sym (ap (over f s) (no_row is js ns k h)) ∙ v.same

pub rows_take : (k : ℕ) (is js : List ℤ) (ns : List Float) → rows (take k is) (take k js) (take k ns) ≡ take k (rows is js ns)
unfolding rows
rows_take zero is js ns = refl
rows_take (suc k) [] js ns = refl
rows_take (suc k) (i ∷ is) [] ns = refl
rows_take (suc k) (i ∷ is) (j ∷ js) [] = refl
rows_take (suc k) (i ∷ is) (j ∷ js) (n ∷ ns) = ap (λ (l : List Row). row i j n ∷ l) (rows_take k is js ns)

pub rows_drop : (k : ℕ) (is js : List ℤ) (ns : List Float) → rows (drop k is) (drop k js) (drop k ns) ≡ drop k (rows is js ns)
unfolding rows
rows_drop zero is js ns = refl
rows_drop (suc k) [] js ns = refl
rows_drop (suc k) (i ∷ is) [] ns = rows_end_2 (drop k is) (drop (suc k) ns)
rows_drop (suc k) (i ∷ is) (j ∷ js) [] = rows_end_3 (drop k is) (drop k js)
rows_drop (suc k) (i ∷ is) (j ∷ js) (n ∷ ns) = rows_drop k is js ns

-- ---- a table part by part

-- a part of the columns is that part of the table
pub rows-part : (a e : ℕ) (is js : List ℤ) (ns : List Float)
    → rows (take (e - a) (drop a is)) (take (e - a) (drop a js)) (take (e - a) (drop a ns)) ≡ part a e (rows is js ns)
rows-part a e is js ns = rows_take (e - a) (drop a is) (drop a js) (drop a ns) ∙ ap (take (e - a)) (rows_drop a is js ns)

rows-length : (is js : List ℤ) (ns : List Float) → length (rows is js ns) ≤ length is
unfolding rows
rows-length [] js ns = omega arith
rows-length (i ∷ is) [] ns = omega arith
rows-length (i ∷ is) (j ∷ js) [] = omega arith
rows-length (i ∷ is) (j ∷ js) (n ∷ ns) = let h = rows-length is js ns in omega arith

-- a table is as long as its columns
pub rows-as_long : (is js : List ℤ) (ns : List Float) → length js ≡ length is → length ns ≡ length is → length (rows is js ns) ≡ length is
unfolding rows
rows-as_long [] js ns j n = refl
rows-as_long (i ∷ is) [] ns j n = absurd (omega arith)
rows-as_long (i ∷ is) (j ∷ js) [] e n = absurd (omega arith)
rows-as_long (i ∷ is) (j ∷ js) (n ∷ ns) e m = let h = rows-as_long is js ns (omega arith) (omega arith) in omega arith

-- ---- the columns of a table, put together again

abbrev pub first : Row → ℤ
first (row i j n) = i

abbrev pub second : Row → ℤ
second (row i j n) = j

abbrev pub third : Row → Float
third (row i j n) = n

rows-columns : (rs : List Row) → rows (map first rs) (map second rs) (map third rs) ≡ rs
unfolding rows
rows-columns [] = refl
rows-columns (row i j n ∷ rs) = ap (λ (l : List Row). row i j n ∷ l) (rows-columns rs)

-- A part of each column of a table, put together, is that part of the table.
pub columns : (a e : ℕ) (rs : List Row)
    → rows (take (e - a) (drop a (map first rs))) (take (e - a) (drop a (map second rs))) (take (e - a) (drop a (map third rs))) ≡ part a e rs
columns a e rs = rows-part a e (map first rs) (map second rs) (map third rs) ∙ ap (part a e) (rows-columns rs)

-- ---- tile by tile
module _ {S : Type 0} (f : S → Row → S) (s : S) (rs : List Row) where
  -- what holds where the tiles up to a are summed
  abbrev pub Upto : S → ℕ → Type 0
  Upto x a = x ≡ over f s (take a rs)

  pub upto_none : Upto s 0
  unfolding over
  upto_none = refl

  -- one tile more
  pub upto_next : {x y : S} (a e : ℕ) → a ≤ e → Upto x a → y ≡ over f x (part a e rs) → Upto y e
  unfolding over
  upto_next a e h p q =
      let m : e ≡ a + (e - a) = omega arith in
      q ∙ ap (λ (z : S). over f z (part a e rs)) p ∙ sym (foldl-append f s (take a rs) (part a e rs))
      ∙ ap (over f s) (sym (take-add a (e - a) rs) ∙ ap (λ (l : ℕ). take l rs) (sym m))

  -- the tiles up to the end are the table
  pub upto_all : {x : S} (a : ℕ) → length rs ≤ a → Upto x a → x ≡ over f s rs
  upto_all a h p = p ∙ ap (over f s) (take_all a rs h)

-- ---- exponents in range: of an entry, and of a part
pub range_at : (ks : List ℤ) (i : ℕ) (d : ℤ) → i < length ks → T (all_in_range ks) → T (in_range (get_or ks i d))
unfolding all_in_range
range_at [] i d h a = absurd (omega arith)
range_at (k ∷ ks) zero d h a = and_l (in_range k) (all_in_range ks) a
range_at (k ∷ ks) (suc i) d h a = range_at ks i d (omega arith) (and_r (in_range k) (all_in_range ks) a)

-- an entry, read back from its bits
module _ (ks : List ℤ) (i : ℕ) (d : ℤ) (h : i < length ks) (a : T (all_in_range ks)) where
  pub read_at : to_z w32 (of_z w32 (get_or ks i d)) ≡ get_or ks i d
  read_at = to_z-of_z (in_range_fits (get_or ks i d) (range_at ks i d h a))

  pub range_at_back : T (in_range (to_z w32 (of_z w32 (get_or ks i d))))
  range_at_back = subst (λ (z : ℤ). T (in_range z)) (sym read_at) (range_at ks i d h a)

range-drop : (n : ℕ) (ks : List ℤ) → T (all_in_range ks) → T (all_in_range (drop n ks))
unfolding all_in_range
range-drop zero ks a = a
range-drop (suc n) [] a = a
range-drop (suc n) (k ∷ ks) a = range-drop n ks (and_r (in_range k) (all_in_range ks) a)

range-take : (n : ℕ) (ks : List ℤ) → T (all_in_range ks) → T (all_in_range (take n ks))
unfolding all_in_range
range-take zero ks a = tt
range-take (suc n) [] a = a
range-take (suc n) (k ∷ ks) a = and_i (in_range k) (all_in_range (take n ks)) (and_l (in_range k) (all_in_range ks) a) (range-take n ks (and_r (in_range k) (all_in_range ks) a))

pub range-part : (a e : ℕ) (ks : List ℤ) → T (all_in_range ks) → T (all_in_range (part a e ks))
range-part a e ks h = range-take (e - a) (drop a ks) (range-drop a ks h)

-- ---- a part of a table's columns
part_length : {A B : Type 0} (a e : ℕ) (xs : List A) (ys : List B) → length xs ≡ length ys → length (part a e xs) ≡ length (part a e ys)
part_length a e xs ys h =
    length-take (e - a) (drop a xs) ∙ ap (min (e - a)) (length-drop a xs ∙ ap (λ (n : ℕ). n - a) h ∙ sym (length-drop a ys)) ∙ sym (length-take (e - a) (drop a ys))

pub columns-part : (a e : ℕ) (is js : List ℤ) (ns : List Float) → Columns is js ns → Columns (part a e is) (part a e js) (part a e ns)
columns-part a e is js ns c =
    record {
      firsts = range-part a e is c.firsts;
      seconds = range-part a e js c.seconds;
      as_long_j = part_length a e js is c.as_long_j;
      as_long_n = part_length a e ns is c.as_long_n;
    }

-- what ends within the table ends within its columns
pub record Within (e : ℕ) (is js : List ℤ) (ns : List Float) : Type 0 where
  pub in_i : e ≤ length is
  pub in_j : e ≤ length js
  pub in_n : e ≤ length ns

pub within_columns : {e : ℕ} {is js : List ℤ} {ns : List Float} {rs : List Row} → Columns is js ns → rows is js ns ≡ rs → e ≤ length rs → Within e is js ns
within_columns {e} {is} {js} {ns} c v h =
    let l = rows-as_long is js ns c.as_long_j c.as_long_n in
    let m : e ≤ length is = omega (arith, ap length v) in
    let j = c.as_long_j in
    let n = c.as_long_n in
    record { in_i = m; in_j = omega arith; in_n = omega arith }

-- ---- one level of tiles, wherever they are cut: the rows from a up to the next cut

-- the next cut rises, and lies within the table
pub record Cut (a e n : ℕ) : Type 0 where
  pub rises : a < e
  pub within : e ≤ n

pub cut_within : {a e size n : ℕ} → 0 < size → a < n → e ≡ min (a + size) n → Cut a e n
cut_within p h l = record { rises = omega arith; within = omega arith }

module _ {S : Type 0} (f : S → Row → S) (s : S) (rs : List Row) where
  pub record Summed (x : S) (a : ℕ) : Type 0 where
    pub within : a ≤ length rs
    pub upto : Upto f s rs x a

  pub summed_none : Summed s 0
  summed_none = record { within = omega arith; upto = upto_none f s rs }

  pub summed_next : {x y : S} {a e : ℕ} → Summed x a → Cut a e (length rs) → y ≡ over f x (part a e rs) → Summed y e
  summed_next {x} {y} {a} {e} v c q =
      let h = c.rises in
      record { within = c.within; upto = upto_next f s rs a e (omega arith) v.upto q }

  pub summed_all : {x : S} {a : ℕ} → Summed x a → length rs ≤ a → x ≡ over f s rs
  summed_all {x} {a} v h = upto_all f s rs a h v.upto

-- ---- one level of tiles, of whatever size: the loop that hands on `size` rows from a, or fewer at the end
module _ {S : Type 0} (f : S → Row → S) (s : S) (rs : List Row) where
  -- behind the last piece the loop's next start may lie behind the table's end
  abbrev pub Reached : S → ℕ → Type 0
  Reached x a = Summed f s rs x (min a (length rs))

  pub reached_none : Reached s 0
  reached_none = let n : 0 ≡ min 0 (length rs) = omega arith in subst (Summed f s rs s) n (summed_none f s rs)

  pub reached_next : {x y : S} {a e n : ℕ} (size : ℕ) → Reached x a → a < n → n ≡ length rs → e ≡ min (a + size) n → y ≡ over f x (part a e rs) → Reached y (a + size)
  reached_next {x} {y} {a} {e} zero v h l m q =
      let at : min a (length rs) ≡ a = omega arith in
      let to : e ≡ min (a + 0) (length rs) = omega arith in
      let before = subst (Summed f s rs x) at v in
      subst (Summed f s rs y) to (record { within = omega arith; upto = upto_next f s rs a e (omega arith) before.upto q })
  reached_next {x} {y} {a} {e} (suc size) v h l m q =
      let at : min a (length rs) ≡ a = omega arith in
      let to : e ≡ min (a + suc size) (length rs) = omega arith in
      subst (Summed f s rs y) to (summed_next f s rs (subst (Summed f s rs x) at v) (cut_within (omega arith) (omega arith) to) q)

  pub reached_all : {x : S} {a : ℕ} → Reached x a → length rs ≤ a → x ≡ over f s rs
  reached_all {x} {a} v h = summed_all f s rs v (omega arith)
