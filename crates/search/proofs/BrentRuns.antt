-- Demand 3 of Brent's search, for any residual function: its brackets are nested, their residuals opposite or the last one's zero, an outcome reports the last of them, and is what demand 3
-- owes. Where the search aims is inverted once (`rule`); each new point lies strictly between b and c, so that these are two points, and the sign rule keeps the residuals opposite. Assumes nothing.
use mathlib.Core.Path.{◌≡◌, refl, sym, ◌∙◌, subst}
use mathlib.Core.Logic.{◌⊎◌, inl, inr}
use mathlib.Core.Bool.{Bool, true, false, cond, true≢false}
use mathlib.Core.List.{map}
use Prim.Native.Nat.{ℕ, ◌+◌, ◌*◌, ◌≤◌, ◌<◌}
use native.Mathlib.Nat.{le_of_lt}
use native.Mathlib.Omega.{arith}
use lib.Dec.{T, not_T}
use lib.Ieee.{Float, nan, inf, fin, binary64, mul, lt, le, eq, fits}
use lib.Ieee.Fits.{add-fits, mul-fits, cond-fits}
use lib.Ieee.Bits.{is_true, is_false}
use lib.Ieee.Scale.{finite}
use Rattle.exact.specs.Operations.{◌⊕◌, ◌⊖◌, ◌⊗◌}
use Rattle.exact.specs.Value.{in_units, double, Less}
use Rattle.exact.specs.Rounding.{distance}
use Rattle.exact.specs.Middle.{half, middle}
use Rattle.exact.proofs.Grid.{other_way}
use Rattle.exact.proofs.Value.{double_of}
use Rattle.exact.proofs.Order.{lt→exact, exact→lt, le→exact, not_lt→le}
use Rattle.exact.proofs.Width.{half-narrow}
use Rattle.float.specs.Sign.{nought, magnitude, sign_taken, same_sign}
use Rattle.std.specs.declared.ops.ControlFlow.{ControlFlow}
use Rattle.std.specs.declared.ops.ControlFlow.TheVariants.{Continue, Break}
use Rattle.common.specs.declared.cause.Cause.TheVariants.{ResidualNotFinite, PointOutside}
use Rattle.search.specs.Run.{states_from, last, Every}
use Rattle.search.specs.Bracket.{ordered, strictly_between}
use Rattle.search.specs.Brent.{bracket_of, by_sign, start, sorted, tolerance, half_width, halved, lengths, next_point, with_lengths, aim_sorted, aim, step, aimed, next, spent, zbrent, zbrent_brackets}
use Rattle.search.specs.Demand.{Opposite, Zero, Start, Within, Signed, Nested, reported, Lies, Enclosed, Owes}
use Rattle.search.specs.Patience.{Spent, steps_of, enough, Counts}
use Rattle.search.specs.declared.bracket.Bracket.{Bracket}
use Rattle.search.specs.declared.method.Method.TheVariants.{ByBrent}
use Rattle.search.specs.declared.brent.Brent.{Brent}
use Rattle.search.specs.declared.brent.Lengths.{Lengths}
use Rattle.search.specs.declared.bracket.Outcome.{Outcome}
use Rattle.search.specs.declared.bracket.Outcome.TheVariants.{SmallResidual, Narrow, Refused}
use Rattle.search.specs.declared.brent.Aim.{Aim}
use Rattle.search.proofs.Runs.{Hands, handed, keeps, reports_last, reports_each, counts}
use Rattle.search.proofs.Magnitude.{magnitude-le, bounded_finite}
use Rattle.search.proofs.Residuals.{Nonzero, of_true, three_ways, zero-sign, not-less, opposite_sym, sign-rule, same}
use Rattle.search.proofs.Tolerance.{tolerance-double, tolerance-two}
use Rattle.search.proofs.Places.{Place, Held, own, within, signed, started, lies, enclosed, nested}

-- ---- the bracket of two places
by_order : (Q : Bracket → Type 0) (f : Float → Float) (w : Bracket) (b fb c fc : Float) → Place f w b fb → Place f w c fc
    → (Held f w (record { x1 = b; x2 = c; r1 = fb; r2 = fc }) → Q (record { x1 = b; x2 = c; r1 = fb; r2 = fc }))
    → (Held f w (record { x1 = c; x2 = b; r1 = fc; r2 = fb }) → Q (record { x1 = c; x2 = b; r1 = fc; r2 = fb })) → Q (ordered b fb c fc)
unfolding ordered
by_order Q f w b fb c fc p q up down = pick (lt b c) refl
  where
    pick : (t : Bool) → lt b c ≡ t → Q (cond t (record { x1 = b; x2 = c; r1 = fb; r2 = fc }) (record { x1 = c; x2 = b; r1 = fc; r2 = fb }))
    pick true e = up (record { lower = p; upper = q; order = le_of_lt (lt→exact b c p.is_double q.is_double (of_true e)) })
    pick false e = down (record { lower = q; upper = p; order = le→exact c b q.is_double p.is_double (not_lt→le b c p.is_double q.is_double e) })

-- two points that are not the same, whichever is the lower: their order says which is which
abbrev Unlike : Float → Float → Type 0
Unlike b c = Less b c ⊎ Less c b

not_back : (b c : Float) → T (double b) → T (double c) → Less b c → lt c b ≡ false
not_back b c p q h = is_false (lt c b) (not_T (lt c b) (λ k. let l = lt→exact c b q p k in omega (arith, h, l)))

either_way : (b fb c fc : Float) → T (double b) → T (double c) → Unlike b c → ordered c fc b fb ≡ ordered b fb c fc
unfolding ordered
either_way b fb c fc p q (inl h) = rw (not_back b c p q h, is_true (lt b c) (exact→lt b c p q h))
either_way b fb c fc p q (inr h) = rw (not_back c b q p h, is_true (lt c b) (exact→lt c b q p h))

-- ---- a state whose last point and c are two places of w
record Sound (f : Float → Float) (w : Bracket) (s : Brent) : Type 0 where
  last : Place f w s.b s.fb
  other : Place f w s.c s.fc
  signs : Opposite s.fb s.fc ⊎ Zero s.fb
  apart : Unlike s.b s.c

-- a point strictly between two doubles is finite
between_finite : (b x c : Float) → T (double b) → T (double c) → T (lt b x) → T (lt x c) → T (finite x)
unfolding lt
between_finite nan x c p q h k = absurd p
between_finite (inf s) x c p q h k = absurd p
between_finite (fin s m e) nan c p q h k = absurd h
between_finite (fin s m e) (inf true) c p q h k = absurd h
between_finite (fin s m e) (inf false) nan p q h k = absurd q
between_finite (fin s m e) (inf false) (inf u) p q h k = absurd q
between_finite (fin s m e) (inf false) (fin u j i) p q h k = absurd k
between_finite (fin s m e) (fin t n d) c p q h k = tt

-- and half of something is finite only if all of it is
whole_finite : (d : Float) → T (finite (half ⊗ d)) → T (finite d)
unfolding mul
whole_finite nan h = h
whole_finite (inf t) h = h
whole_finite (fin t m e) h = tt

-- ---- which rule an aim went by
data Rule (s : Brent) (n : ℕ) : ControlFlow Outcome Aim → Type 0 where
  zero_now : Zero s.fb → Rule s n (Break (SmallResidual s.b n (bracket_of s)))
  narrow_now : eq s.fb nought ≡ false → le (magnitude (half_width s)) (tolerance s.b) ≡ true → Rule s n (Break (Narrow s.b n (bracket_of s)))
  point_now : eq s.fb nought ≡ false → (l : Lengths) (x : Float) → T (fits binary64 x) → strictly_between x s.b s.c ≡ true → Rule s n (Continue (record { state = with_lengths s l; x = x }))
  none_now : Rule s n (Break (Refused PointOutside nought n (bracket_of s)))

next_fits : (s : Brent) (l : Lengths) → T (fits binary64 (next_point s l))
unfolding next_point
next_fits s l =
    let y = sign_taken (tolerance s.b) (half_width s) in
    cond-fits binary64 (lt (tolerance s.b) (magnitude l.d)) (s.b ⊕ l.d) (s.b ⊕ y) (add-fits binary64 s.b l.d) (add-fits binary64 s.b y)

middle-fits : (x y : Float) → T (fits binary64 (middle x y))
unfolding middle
middle-fits x y = mul-fits binary64 half (x ⊕ y)

rule : (s : Brent) (n : ℕ) → Rule s n (aim_sorted s n)
unfolding aim_sorted
rule s n = pick (eq s.fb nought) refl (le (magnitude (half_width s)) (tolerance s.b)) refl (strictly_between x s.b s.c) refl (strictly_between m s.b s.c) refl
  where
    x : Float
    x = next_point s (lengths s)

    m : Float
    m = middle s.b s.c

    pick : (z : Bool) → eq s.fb nought ≡ z → (t : Bool) → le (magnitude (half_width s)) (tolerance s.b) ≡ t → (u : Bool) → strictly_between x s.b s.c ≡ u → (v : Bool) → strictly_between m s.b s.c ≡ v
        → Rule s n (cond z (Break (SmallResidual s.b n (bracket_of s))) (cond t (Break (Narrow s.b n (bracket_of s))) (cond u (Continue (record { state = with_lengths s (lengths s); x = x })) (cond v (Continue (record { state = with_lengths s (halved s); x = m })) (Break (Refused PointOutside nought n (bracket_of s)))))))
    pick true z t p u q v r = zero_now z
    pick false z true p u q v r = narrow_now z p
    pick false z false p true q v r = point_now z (lengths s) x (next_fits s (lengths s)) q
    pick false z false p false q true r = point_now z (halved s) m (middle-fits s.b s.c) r
    pick false z false p false q false r = none_now

-- ---- the limit is tested before an aim: an outcome of the aim has the steps before it, and 6 the one that failed; none is 8
module _ (f : Float → Float) where
  abbrev Stops : ℕ → Outcome → Type 0
  Stops n o = (enough 1 o ≡ n + 1) × (Spent o → ⊥)

  turn_counts : (s : Brent) (n : ℕ) → Hands (Stops n) (λ c. Prim.Unit {0}) (next f s n)
  unfolding next aim
  turn_counts s n = by (rule (sorted s) n)
    where
      failed : (t : Aim) → Hands (Stops n) (λ c. Prim.Unit {0}) (step t (f t.x) (n + 1))
      failed t = unfold step in pick _ (finite (f t.x))
        where
          pick : (c : Brent) (b : Bool) → Hands (Stops n) (λ c. Prim.Unit {0}) (cond b (Continue c) (Break (Refused ResidualNotFinite nought (n + 1) (bracket_of t.state))))
          pick c true = tt
          pick c false = (omega arith, λ e. omega (arith, e))

      by : {t : ControlFlow Outcome Aim} → Rule (sorted s) n t → Hands (Stops n) (λ c. Prim.Unit {0}) (aimed f n t)
      by (zero_now z) = (refl, λ e. e)
      by (narrow_now z k) = (refl, λ e. e)
      by (point_now z l x t k) = failed (record { state = with_lengths (sorted s) l; x = x })
      by none_now = (refl, λ e. omega (arith, e))

  pub zbrent_counts : (s : Bracket) → Counts 1 (zbrent f s)
  unfolding zbrent
  zbrent_counts s = counts (next f) spent (enough 1) steps_of Spent turn_counts (λ u n. unfold spent in (refl, refl)) (start s)

module _ (f : Float → Float) (w : Bracket) where
  -- the bracket of a state: it holds the state's points, and its residuals are opposite or one is zero
  held : (s : Brent) → Sound f w s → Held f w (bracket_of s)
  unfolding bracket_of
  held s h = by_order (Held f w) f w s.b s.fb s.c s.fc h.last h.other (λ k. k) (λ k. k)

  self : (s : Brent) → Sound f w s → Sound f (bracket_of s) s
  unfolding bracket_of
  self s h =
      by_order (λ v. Sound f v s) f w s.b s.fb s.c s.fc h.last h.other
      (λ k. let o = own _ k in record { last = o.lower; other = o.upper; signs = h.signs; apart = h.apart })
      (λ k. let o = own _ k in record { last = o.upper; other = o.lower; signs = h.signs; apart = h.apart })

  shows : (s : Brent) → Sound f w s → Signed f (bracket_of s)
  unfolding bracket_of
  shows s h =
      by_order (Signed f) f w s.b s.fb s.c s.fc h.last h.other
      (λ k. signed k (elim h.signs [ inl o ↦ inl o | inr z ↦ inr (inl z) ]))
      (λ k. signed k (elim h.signs [ inl o ↦ inl (opposite_sym s.fb s.fc o) | inr z ↦ inr (inr z) ]))

  -- the two ends may change places
  sound_sorted : (s : Brent) → Sound f w s → Sound f w (sorted s)
  unfolding sorted
  sound_sorted s h = pick (lt (magnitude s.fc) (magnitude s.fb)) refl
    where
      swapped : Brent
      swapped = record { a = s.b; b = s.c; c = s.b; fa = s.fb; fb = s.fc; fc = s.fb; d = s.d; e = s.e }

      turned : lt (magnitude s.fc) (magnitude s.fb) ≡ true → Opposite s.fb s.fc ⊎ Zero s.fb → Opposite s.fc s.fb ⊎ Zero s.fc
      turned k (inl o) = inl (opposite_sym s.fb s.fc o)
      turned k (inr z) = absurd (not-less s.fc s.fb z k)

      pick : (t : Bool) → lt (magnitude s.fc) (magnitude s.fb) ≡ t → Sound f w (cond t swapped s)
      pick true k = record { last = h.other; other = h.last; signs = turned k h.signs; apart = other_way h.apart }
      pick false k = h

  sorted_bracket : (s : Brent) → Sound f w s → bracket_of (sorted s) ≡ bracket_of s
  unfolding sorted bracket_of
  sorted_bracket s h = pick (lt (magnitude s.fc) (magnitude s.fb))
    where
      pick : (t : Bool) → bracket_of (cond t (record { a = s.b; b = s.c; c = s.b; fa = s.fb; fb = s.fc; fc = s.fb; d = s.d; e = s.e }) s) ≡ bracket_of s
      pick true = either_way s.b s.fb s.c s.fc h.last.is_double h.other.is_double h.apart
      pick false = refl

  -- the sign rule, where c and the previous point a are opposite
  by_sign_lem : (u : Brent) → Place f w u.a u.fa → Place f w u.b u.fb → Place f w u.c u.fc → Opposite u.fc u.fa → Unlike u.b u.a → Unlike u.b u.c → Nonzero u.fb ⊎ Zero u.fb → Sound f w (by_sign u)
  unfolding by_sign
  by_sign_lem u p q r o j k (inr z) = rw (zero-sign u.fb u.fc z) (record { last = q; other = r; signs = inr z; apart = k })
  by_sign_lem u p q r o j k (inl n) = by (sign-rule u.fb u.fc u.fa n o)
    where
      by : ((same_sign u.fb u.fc ≡ true) × Opposite u.fb u.fa) ⊎ ((same_sign u.fb u.fc ≡ false) × Opposite u.fc u.fb) → Sound f w (by_sign u)
      by (inl v) = rw v.0 (record { last = q; other = p; signs = inl v.1; apart = j })
      by (inr v) = rw v.0 (record { last = q; other = r; signs = inl (opposite_sym u.fc u.fb v.1); apart = k })

  opposite_now : (s : Brent) → Sound f w s → eq s.fb nought ≡ false → Opposite s.fb s.fc
  opposite_now s h z = elim h.signs [ inl o ↦ o | inr e ↦ absurd (true≢false (sym e ∙ z)) ]

  -- a new point
  placed : (b fb c fc x : Float) → Place f w b fb → Place f w c fc → T (fits binary64 x) → T (lt b x) → T (lt x c) → Place f w x (f x) × Less b x × Less x c
  placed b fb c fc x p q t h k =
      let d = double_of x (between_finite b x c p.is_double q.is_double h k) t in
      let l = lt→exact b x p.is_double d h in
      let u = lt→exact x c d q.is_double k in
      (record { is_double = d; residual = refl; from_lower = omega (arith, l, p.from_lower); to_upper = omega (arith, u, q.to_upper) }, l, u)

  strict : (s : Brent) → Sound f w s → (x : Float) → T (fits binary64 x) → strictly_between x s.b s.c ≡ true → Place f w x (f x) × Unlike x s.b × Unlike x s.c
  unfolding strictly_between
  strict s h x t = pick (lt s.b x) refl (lt s.c x) refl
    where
      pick : (u : Bool) → lt s.b x ≡ u → (v : Bool) → lt s.c x ≡ v → cond u (lt x s.c) (cond v (lt x s.b) false) ≡ true → Place f w x (f x) × Unlike x s.b × Unlike x s.c
      pick true e v g k = let p = placed s.b s.fb s.c s.fc x h.last h.other t (of_true e) (of_true k) in (p.0, inr p.1, inl p.2)
      pick false e true g k = let p = placed s.c s.fc s.b s.fb x h.other h.last t (of_true g) (of_true k) in (p.0, inl p.2, inr p.1)
      pick false e false g k = absurd (true≢false (sym k))

  -- half the width is at most the tolerance
  thin : (s : Brent) → Sound f w s → le (magnitude (half_width s)) (tolerance s.b) ≡ true → distance s.c s.b < 3 * in_units (tolerance s.b)
  unfolding half_width
  thin s h k =
      let p = h.other.is_double in
      let q = h.last.is_double in
      let d = s.c ⊖ s.b in
      let H = bounded_finite (half ⊗ d) (tolerance s.b) (tolerance-double s.b q) (of_true k) in
      half-narrow s.c s.b p q (whole_finite d H) (in_units (tolerance s.b)) (tolerance-two s.b q)
      (magnitude-le (half ⊗ d) (tolerance s.b) (double_of (half ⊗ d) H (mul-fits binary64 half d)) (tolerance-double s.b q) (of_true k))

  -- ---- what each turn hands on, where w is a bracket of a run itself
  module _ (g : Held f w w) where
    narrow_owes : (s : Brent) → Sound f w s → eq s.fb nought ≡ false → le (magnitude (half_width s)) (tolerance s.b) ≡ true → Enclosed f w (bracket_of s) s.b (3 * in_units (tolerance s.b))
    unfolding bracket_of
    narrow_owes s h z k =
        by_order (λ v. Enclosed f w v s.b (3 * in_units (tolerance s.b))) f w s.b s.fb s.c s.fc h.last h.other
        (λ v. enclosed g v o (own _ v).lower (omega (arith, near)))
        (λ v. enclosed g v (opposite_sym s.fb s.fc o) (own _ v).upper near)
      where
        o : Opposite s.fb s.fc
        o = opposite_now s h z

        near : distance s.c s.b < 3 * in_units (tolerance s.b)
        near = thin s h k

    zero-lies : (s : Brent) → Sound f w s → Lies w (bracket_of s) s.b
    unfolding bracket_of
    zero-lies s h = by_order (λ v. Lies w v s.b) f w s.b s.fb s.c s.fc h.last h.other (λ v. lies g v (own _ v).lower) (λ v. lies g v (own _ v).upper)

    -- what an outcome owes, and that it reports the bracket of its turn
    abbrev Owed : Brent → Outcome → Type 0
    Owed s o = Owes ByBrent f w o × (reported o ≡ bracket_of s)

    stepped : (s : Brent) (l : Lengths) (x : Float) (n : ℕ) → Sound f w s → eq s.fb nought ≡ false → Place f w x (f x) × Unlike x s.b × Unlike x s.c → Hands (Owed s) (Sound f w) (step (record { state = with_lengths s l; x = x }) (f x) n)
    unfolding step
    stepped s l x n h z p = pick (finite (f x)) refl
      where
        t : Brent
        t = with_lengths s l

        u : Brent
        u = record { a = s.b; b = x; c = s.c; fa = s.fb; fb = f x; fc = s.fc; d = l.d; e = l.e }

        pick : (q : Bool) → finite (f x) ≡ q → Hands (Owed s) (Sound f w) (cond q (Continue (by_sign u)) (Break (Refused ResidualNotFinite nought n (bracket_of t))))
        pick true q = by_sign_lem u h.last p.0 h.other (opposite_sym s.fb s.fc (opposite_now s h z)) p.1 p.2 (three_ways (f x) q)
        pick false q = unfold bracket_of in ((inl refl, within g (held t (record { last = h.last; other = h.other; signs = h.signs; apart = h.apart }))), refl)

    aimed_owes : (s : Brent) (n : ℕ) → Sound f w s → {t : ControlFlow Outcome Aim} → Rule s n t → Hands (Owed s) (Sound f w) (aimed f n t)
    aimed_owes s n h (zero_now z) = ((subst Zero h.last.residual z, zero-lies s h), refl)
    aimed_owes s n h (narrow_now z k) = (narrow_owes s h z k, refl)
    aimed_owes s n h (point_now z l x t k) = stepped s l x (n + 1) h z (strict s h x t k)
    aimed_owes s n h none_now = ((inr (inr refl), within g (held s h)), refl)

    turn_owes : (s : Brent) (n : ℕ) → Sound f w s → Hands (Owed s) (Sound f w) (next f s n)
    unfolding next aim
    turn_owes s n h = handed (λ o k. (k.0, k.1 ∙ sorted_bracket s h)) (λ c k. k) (aimed f n (aim_sorted (sorted s) n)) (aimed_owes (sorted s) n (sound_sorted s h) (rule (sorted s) n))

-- ---- the start: b is the upper end and c the lower one
module _ (f : Float → Float) (s : Bracket) (g : Start f s) where
  opposite : Opposite s.r2 s.r1
  opposite = opposite_sym s.r1 s.r2 g.opposite

  upper_nonzero : Nonzero s.r2
  upper_nonzero = elim opposite [ inl o ↦ inl o.0 | inr o ↦ inr o.0 ]

  -- its bracket is s, and its last point is the upper end
  starts : start s ≡ record { a = s.x1; b = s.x2; c = s.x1; fa = s.r1; fb = s.r2; fc = s.r1; d = s.x2 ⊖ s.x1; e = s.x2 ⊖ s.x1 }
  unfolding start by_sign
  starts = rw (same s.r2 s.r2 (elim upper_nonzero [ inl n ↦ inl (n, n) | inr n ↦ inr (n, n) ]))

  sound_start : Sound f s (start s)
  sound_start = let h = started g in rw starts (record { last = h.upper; other = h.lower; signs = inl opposite; apart = inr (lt→exact s.x1 s.x2 g.lower g.upper g.order) })

  pub zbrent-last : (start s).b ≡ s.x2
  zbrent-last = rw starts

  pub zbrent-first : bracket_of (start s) ≡ s
  unfolding bracket_of ordered
  zbrent-first = rw (starts, not_back s.x1 s.x2 g.lower g.upper (lt→exact s.x1 s.x2 g.lower g.upper g.order))

  -- ---- the brackets of a run
  pub zbrent-nested : (limit : ℕ) → Nested f (zbrent_brackets f s limit)
  unfolding zbrent_brackets
  zbrent-nested limit = nested f bracket_of (next f) (λ u. Sound f (bracket_of u) u) (λ u h. shows f (bracket_of u) u h) inward limit (start s) 0 (self f s (start s) sound_start)
    where
      inward : (u : Brent) (n : ℕ) → Sound f (bracket_of u) u → Hands (λ o. Prim.Unit {0}) (λ c. Sound f (bracket_of c) c × Within (bracket_of c) (bracket_of u)) (next f u n)
      inward u n h = handed (λ o k. tt) (λ c k. (self f (bracket_of u) c k, within (held f (bracket_of u) u h) (held f (bracket_of u) c k))) (next f u n) (turn_owes f (bracket_of u) (held f (bracket_of u) u h) u n h)

  -- ---- they are the ones that outcomes report
  turn_reports : (u : Brent) (n : ℕ) → Sound f s u → Hands (λ o. reported o ≡ bracket_of u) (Sound f s) (next f u n)
  turn_reports u n h = handed (λ o k. k.1) (λ c k. k) (next f u n) (turn_owes f s (started g) u n h)

  pub zbrent_reports : (limit : ℕ) → reported (zbrent f s limit) ≡ last s (zbrent_brackets f s limit)
  unfolding zbrent zbrent_brackets
  zbrent_reports limit = subst (λ (b : Bracket). reported (zbrent f s limit) ≡ last b (map bracket_of (states_from (next f) limit (start s) 0))) zbrent-first (reports_last (next f) spent bracket_of reported (Sound f s) turn_reports (λ u n. unfold spent in refl) limit (start s) 0 sound_start)

  pub zbrent-each : (limit : ℕ) → Every (λ b. (k : ℕ) × (k ≤ limit) × (reported (zbrent f s k) ≡ b)) (zbrent_brackets f s limit)
  unfolding zbrent zbrent_brackets
  zbrent-each limit = reports_each (next f) spent bracket_of reported (Sound f s) turn_reports (λ u n. unfold spent in refl) limit (start s) 0 sound_start

  -- ---- what an outcome owes
  pub zbrent_owes : (limit : ℕ) → Owes ByBrent f s (zbrent f s limit)
  unfolding zbrent
  zbrent_owes limit =
      keeps (next f) spent (Owes ByBrent f s) (Sound f s) (λ u n h. handed (λ o k. k.0) (λ c k. k) (next f u n) (turn_owes f s (started g) u n h))
      (λ u n h. unfold spent in (inr (inl refl), within (started g) (held f s u h))) limit (start s) 0 sound_start
