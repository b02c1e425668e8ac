-- Any run: how it goes on, for a loop that counts up to its limit; what its turns keep; the states it goes through, and that outcomes report them; and that the limit decides whether there is an outcome,
-- and not which. By induction on the steps left. Assumes nothing.
use mathlib.Core.Path.{◌≡◌, refl, sym, ap, ◌∙◌, subst}
use mathlib.Core.Logic.{◌⊎◌, inl, inr}
use mathlib.Core.List.{List, [], ◌∷◌, map}
use Prim.Native.Nat.{ℕ, zero, suc, ◌+◌, ◌-◌, ◌≤◌, ◌<◌}
use native.Mathlib.Omega.{arith}
use Rattle.std.specs.ControlFlow.{MatchControlFlow}
use Rattle.std.specs.declared.ops.ControlFlow.{ControlFlow}
use Rattle.std.specs.declared.ops.ControlFlow.TheVariants.{Continue, Break}
use Rattle.search.specs.Run.{run_from, states_from, last, Every}
use Rattle.search.specs.Patience.{CountedUnder}

left : (limit n : ℕ) → n < limit → limit - n ≡ suc (limit - (n + 1))
left limit n h = omega arith

none : (limit n : ℕ) → limit ≤ n → limit - n ≡ 0
none limit n h = omega arith

all : (x : ℕ) → x - 0 ≡ x
all x = omega arith

least : (k : ℕ) → 0 ≤ k
least k = omega arith

both : (j k : ℕ) → j ≤ k → suc j ≤ suc k
both j k h = omega arith

-- what a turn hands on: Q of an outcome, P of a state
abbrev pub Hands : {O S : Type 0} → (O → Type 0) → (S → Type 0) → ControlFlow O S → Type 0
Hands Q P t = MatchControlFlow t P Q

pub handed : {O S : Type 0} {Q Q' : O → Type 0} {P P' : S → Type 0} → ((o : O) → Q o → Q' o) → ((c : S) → P c → P' c) → (t : ControlFlow O S) → Hands Q P t → Hands Q' P' t
handed f g (Break o) h = f o h
handed f g (Continue c) h = g c h

pub every : {A : Type 0} {P Q : A → Type 0} → ((a : A) → P a → Q a) → (l : List A) → Every P l → Every Q l
every f [] h = tt
every f (a ∷ l) h = (f a h.0, every f l h.1)

module _ {O S : Type 0} (next : S → ℕ → ControlFlow O S) (spent : S → ℕ → O) where
  pub from-stop : (k : ℕ) (s : S) (n : ℕ) (o : O) → next s n ≡ Break o → run_from next spent (suc k) s n ≡ o
  unfolding run_from
  from-stop k s n o h = rw h

  pub from-go : (k : ℕ) (s : S) (n : ℕ) (c : S) → next s n ≡ Continue c → run_from next spent (suc k) s n ≡ run_from next spent k c (n + 1)
  unfolding run_from
  from-go k s n c h = rw h

  -- ---- a loop that counts n up to a limit
  pub loop_stop : (limit : ℕ) (s : S) (n : ℕ) (o : O) → n < limit → next s n ≡ Break o → run_from next spent (limit - n) s n ≡ o
  loop_stop limit s n o l h = rw (left limit n l) (from-stop (limit - (n + 1)) s n o h)

  pub loop_go : (limit : ℕ) (s : S) (n : ℕ) (c : S) → n < limit → next s n ≡ Continue c → run_from next spent (limit - n) s n ≡ run_from next spent (limit - (n + 1)) c (n + 1)
  loop_go limit s n c l h = rw (left limit n l) (from-go (limit - (n + 1)) s n c h)

  pub loop_spent : (limit : ℕ) (s : S) (n : ℕ) → limit ≤ n → run_from next spent (limit - n) s n ≡ spent s n
  unfolding run_from
  loop_spent limit s n h = rw (none limit n h)

  pub loop_starts : (limit : ℕ) (s : S) → run_from next spent (limit - 0) s 0 ≡ run_from next spent limit s 0
  loop_starts limit s = rw (all limit)

  -- ---- what every turn hands on, the run does
  pub keeps : (Q : O → Type 0) (P : S → Type 0) → ((s : S) (n : ℕ) → P s → Hands Q P (next s n)) → ((s : S) (n : ℕ) → P s → Q (spent s n))
      → (k : ℕ) (s : S) (n : ℕ) → P s → Q (run_from next spent k s n)
  keeps Q P t w zero s n p = unfold run_from in w s n p
  keeps Q P t w (suc k) s n p = turn (λ c. keeps Q P t w k c (n + 1)) (next s n) refl (t s n p)
    where
      turn : ((c : S) → P c → Q (run_from next spent k c (n + 1))) → (g : ControlFlow O S) → next s n ≡ g → Hands Q P g → Q (run_from next spent (suc k) s n)
      turn ih (Break o) e h = subst Q (sym (from-stop k s n o e)) h
      turn ih (Continue c) e h = subst Q (sym (from-go k s n c e)) (ih c h)

module _ {O S : Type 0} (next : S → ℕ → ControlFlow O S) where
  -- ---- the states, the first one first
  pub states_stop : (k : ℕ) (s : S) (n : ℕ) (o : O) → next s n ≡ Break o → states_from next (suc k) s n ≡ s ∷ []
  unfolding states_from
  states_stop k s n o h = rw h

  pub states_go : (k : ℕ) (s : S) (n : ℕ) (c : S) → next s n ≡ Continue c → states_from next (suc k) s n ≡ s ∷ states_from next k c (n + 1)
  unfolding states_from
  states_go k s n c h = rw h

  pub states_first : (k : ℕ) (s : S) (n : ℕ) → (rest : List S) × (states_from next k s n ≡ s ∷ rest)
  unfolding states_from
  states_first zero s n = ([], refl)
  states_first (suc k) s n = (_, refl)

-- ---- what outcomes report: where each turn that stops reports what `view` shows of its state, as a spent run does, the last state is reported, and each is under some limit
module _ {O S B : Type 0} (next : S → ℕ → ControlFlow O S) (spent : S → ℕ → O) (view : S → B) (report : O → B) (P : S → Type 0)
    (turn : (s : S) (n : ℕ) → P s → Hands (λ o. report o ≡ view s) P (next s n)) (ends : (s : S) (n : ℕ) → report (spent s n) ≡ view s) where
  pub reports_last : (k : ℕ) (s : S) (n : ℕ) → P s → report (run_from next spent k s n) ≡ last (view s) (map view (states_from next k s n))
  reports_last zero s n p = unfold run_from states_from in ends s n
  reports_last (suc k) s n p = by (λ c. reports_last k c (n + 1)) (next s n) refl (turn s n p)
    where
      by : ((c : S) → P c → report (run_from next spent k c (n + 1)) ≡ last (view c) (map view (states_from next k c (n + 1)))) → (t : ControlFlow O S) → next s n ≡ t → Hands (λ o. report o ≡ view s) P t
          → report (run_from next spent (suc k) s n) ≡ last (view s) (map view (states_from next (suc k) s n))
      by ih (Break o) e h = rw (from-stop next spent k s n o e, states_stop next k s n o e) h
      by ih (Continue c) e h = let r = states_first next k c (n + 1) in rw (from-go next spent k s n c e, states_go next k s n c e, r.1) (subst (λ (l : List S). report (run_from next spent k c (n + 1)) ≡ last (view c) (map view l)) r.1 (ih c h))

  abbrev Under : ℕ → S → ℕ → B → Type 0
  Under k s n b = (j : ℕ) × (j ≤ k) × (report (run_from next spent j s n) ≡ b)

  at_once : (k : ℕ) (s : S) (n : ℕ) → Under k s n (view s)
  at_once k s n = (0, least k, unfold run_from in ends s n)

  pub reports_each : (k : ℕ) (s : S) (n : ℕ) → P s → Every (Under k s n) (map view (states_from next k s n))
  reports_each zero s n p = unfold states_from in (at_once 0 s n, tt)
  reports_each (suc k) s n p = by (λ c. reports_each k c (n + 1)) (next s n) refl (turn s n p)
    where
      Views : List S → Type 0
      Views l = Every (Under (suc k) s n) (map view l)

      by : ((c : S) → P c → Every (Under k c (n + 1)) (map view (states_from next k c (n + 1)))) → (t : ControlFlow O S) → next s n ≡ t → Hands (λ o. report o ≡ view s) P t → Views (states_from next (suc k) s n)
      by ih (Break o) e h = subst Views (sym (states_stop next k s n o e)) (at_once (suc k) s n, tt)
      by ih (Continue c) e h =
          subst Views (sym (states_go next k s n c e))
          (at_once (suc k) s n, every (λ b w. (suc w.0, both w.0 k w.1, ap report (from-go next spent w.0 s n c e) ∙ w.2)) (map view (states_from next k c (n + 1))) (ih c h))

-- ---- patience: where a turn that stops after n steps gives an outcome that is not 8 and whose least limit is n + 1, and a run that is spent after n steps is 8 and tells them
module _ {O S : Type 0} (next : S → ℕ → ControlFlow O S) (spent : S → ℕ → O) (least steps : O → ℕ) (Eight : O → Type 0)
    (turn : (s : S) (n : ℕ) → Hands (λ o. (least o ≡ n + 1) × (Eight o → ⊥)) (λ c. Prim.Unit {0}) (next s n)) (ends : (s : S) (n : ℕ) → Eight (spent s n) × (steps (spent s n) ≡ n)) where
  abbrev ran : ℕ → S → ℕ → O
  ran k s n = run_from next spent k s n

  -- from a state after n steps, with k left, all of them are taken and it is 8
  abbrev AllTaken : ℕ → S → ℕ → Type 0
  AllTaken k s n = Eight (ran k s n) × (steps (ran k s n) ≡ n + k)

  -- or o is given
  record Found (o : O) (k : ℕ) (s : S) (n : ℕ) : Type 0 where
    settled : Eight o → ⊥
    later : n < least o
    held : least o ≤ n + k
    same : (j : ℕ) → least o ≤ n + j → ran j s n ≡ o
    smaller : (j : ℕ) → n + j < least o → AllTaken j s n

  none_left : (s : S) (n : ℕ) → AllTaken 0 s n
  none_left s n = unfold run_from in ((ends s n).0, (ends s n).1 ∙ omega arith)

  one_more : (k : ℕ) (s : S) (n : ℕ) (c : S) → next s n ≡ Continue c → AllTaken k c (n + 1) → AllTaken (suc k) s n
  one_more k s n c e x = rw (from-go next spent k s n c e) (x.0, x.1 ∙ omega arith)

  stopped : (k : ℕ) (s : S) (n : ℕ) (o : O) → next s n ≡ Break o → (least o ≡ n + 1) × (Eight o → ⊥) → Found o (suc k) s n
  stopped k s n o e (l, unlike) = record { settled = unlike; later = omega (arith, l); held = omega (arith, l); same = same; smaller = smaller }
    where
      same : (j : ℕ) → least o ≤ n + j → ran j s n ≡ o
      same zero h = absurd (omega (arith, l, h))
      same (suc j) h = from-stop next spent j s n o e

      smaller : (j : ℕ) → n + j < least o → AllTaken j s n
      smaller zero h = none_left s n
      smaller (suc j) h = absurd (omega (arith, l, h))

  gone : (k : ℕ) (s : S) (n : ℕ) (c : S) (o : O) → next s n ≡ Continue c → Found o k c (n + 1) → Found o (suc k) s n
  gone k s n c o e r = record { settled = r.settled; later = omega (arith, r.later); held = omega (arith, r.held); same = same; smaller = smaller }
    where
      same : (j : ℕ) → least o ≤ n + j → ran j s n ≡ o
      same zero h = absurd (omega (arith, r.later, h))
      same (suc j) h = from-go next spent j s n c e ∙ r.same j (omega (arith, h))

      smaller : (j : ℕ) → n + j < least o → AllTaken j s n
      smaller zero h = none_left s n
      smaller (suc j) h = one_more j s n c e (r.smaller j (omega (arith, h)))

  found : (k : ℕ) (s : S) (n : ℕ) → AllTaken k s n ⊎ Found (ran k s n) k s n
  found zero s n = inl (none_left s n)
  found (suc k) s n = by (λ c. found k c (n + 1)) (next s n) refl (turn s n)
    where
      by : ((c : S) → AllTaken k c (n + 1) ⊎ Found (ran k c (n + 1)) k c (n + 1)) → (t : ControlFlow O S) → next s n ≡ t → Hands (λ o. (least o ≡ n + 1) × (Eight o → ⊥)) (λ c. Prim.Unit {0}) t
          → AllTaken (suc k) s n ⊎ Found (ran (suc k) s n) (suc k) s n
      by ih (Break o) e l = inr (subst (λ (x : O). Found x (suc k) s n) (sym (from-stop next spent k s n o e)) (stopped k s n o e l))
      by ih (Continue c) e l = elim (ih c) [
        | inl x ↦ inl (one_more k s n c e x)
        | inr r ↦ inr (subst (λ (x : O). Found x (suc k) s n) (sym (from-go next spent k s n c e)) (gone k s n c (ran k c (n + 1)) e r))
      ]

  pub counts : (s : S) → CountedUnder (λ k. Prim.Unit {0}) least steps Eight (λ k. ran k s 0)
  counts s limit u = elim (found limit s 0) [ inl x ↦ inl (told limit x) | inr r ↦ inr (record { settled = r.settled; held = omega (arith, r.held); same = λ k l a. r.same k (omega (arith, l)); smaller = λ k l. told k (r.smaller k (omega (arith, l))) }) ]
    where
      told : (k : ℕ) → AllTaken k s 0 → Eight (ran k s 0) × (steps (ran k s 0) ≡ k)
      told k x = (x.0, x.1 ∙ omega arith)
