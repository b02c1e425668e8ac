-- Each component of the state that the one loop makes is its own sum, of every kind. Assumes nothing.
use mathlib.Core.Path.{◌≡◌, refl, sym, ◌∙◌, ap}
use mathlib.Core.List.{List, [], ◌∷◌}
use lib.Ieee.{Float}
use Rattle.exact.specs.Operations.{◌⊕◌, ◌⊗◌, ◌⊘◌}
use Rattle.polynomial.specs.Terms.{Row, total, total_from, term, alone, alone_j, items, items_i, items_j, items_ii, items_ij, items_jj, shared_0, shared_i, shared_j, shared_ii, shared_ij, shared_jj}
use Rattle.polynomial.specs.Sums.{step, over, none, shared}
use Rattle.polynomial.specs.Kinds.{only_0_j, only_i_j, only_i_ii_ij_jj, divided, of_shared, OnlyLaws, laws_0_j, laws_i_j, laws_i_ii_ij_jj}
use Rattle.polynomial.specs.declared.Order.{Order}
use Rattle.polynomial.specs.declared.Order.TheVariants.{Not}
use Rattle.polynomial.specs.declared.Sums.{Sums}
use Rattle.polynomial.specs.declared.Kind.TheVariants.{Direct, Shared, Alone, AloneShared}

-- where a step adds t of the row to a component, that component goes on as the sum of t
pub component : {S : Type 0} (c : S → Float) (f : S → Row → S) (t : Row → Float) → ((s : S) (r : Row) → c (f s r) ≡ c s ⊕ t r) → (s : S) (rs : List Row) → c (over f s rs) ≡ total_from (c s) t rs
unfolding over total_from
component c f t h s [] = refl
component c f t h s (r ∷ rs) = component c f t h (f s r) rs ∙ ap (λ (x : Float). total_from x t rs) (h s r)

module _ (vi vj : Float) (s : Sums) (rs : List Row) where
  pub direct_sum : (di dj : Order) → (over (step (Direct di dj) vi vj) s rs).zero ≡ total_from s.zero (term di dj vi vj) rs
  direct_sum di dj = component (λ x. x.zero) (step (Direct di dj) vi vj) (term di dj vi vj) (λ x r. refl) s rs

  pub alone-sum : (d : Order) → (over (step (Alone d) vi vj) s rs).zero ≡ total_from s.zero (alone d vj) rs
  alone-sum d = component (λ x. x.zero) (step (Alone d) vi vj) (alone d vj) (λ x r. refl) s rs

  pub alone-shared-sum : ((over (step AloneShared vi vj) s rs).zero ≡ total_from s.zero (alone Not vj) rs) × ((over (step AloneShared vi vj) s rs).j ≡ total_from s.j (alone_j vj) rs)
  alone-shared-sum = (component (λ x. x.zero) (step AloneShared vi vj) (alone Not vj) (λ x r. refl) s rs, component (λ x. x.j) (step AloneShared vi vj) (alone_j vj) (λ x r. refl) s rs)

module _ (vi vj : Float) (rs : List Row) where
  own : (c : Sums → Float) (t : Row → Float) → ((s : Sums) (r : Row) → c (step Shared vi vj s r) ≡ c s ⊕ t r) → c (over (step Shared vi vj) none rs) ≡ total_from (c none) t rs
  own c t h = component c (step Shared vi vj) t h none rs

  pub shared_sums : divided vi vj (over (step Shared vi vj) none rs) ≡ shared vi vj rs
  unfolding shared_0 shared_i shared_j shared_ii shared_ij shared_jj
  shared_sums =
      rw (
        own (λ x. x.zero) (items vi vj) (λ s r. refl),
        own (λ x. x.i) (items_i vi vj) (λ s r. refl),
        own (λ x. x.j) (items_j vi vj) (λ s r. refl),
        own (λ x. x.ii) (items_ii vi vj) (λ s r. refl),
        own (λ x. x.ij) (items_ij vi vj) (λ s r. refl),
        own (λ x. x.jj) (items_jj vi vj) (λ s r. refl),
      )

  -- ---- those that a property reads: the others, which are 0 all the way, change nothing of them
  module _ (only : Sums → Sums) (laws : OnlyLaws only) where
    kept : (s : Sums) (ts : List Row) → only (over (step Shared vi vj) s ts) ≡ over (of_shared only vi vj) (only s) ts
    unfolding over
    kept s [] = refl
    kept s (r ∷ ts) =
        kept (step Shared vi vj s r) ts
        ∙ ap (λ (x : Sums). over (of_shared only vi vj) x ts)
        (sym (laws.of_each (λ x. x ⊕ items vi vj r) (λ x. x ⊕ items_i vi vj r) (λ x. x ⊕ items_j vi vj r) (λ x. x ⊕ items_ii vi vj r) (λ x. x ⊕ items_ij vi vj r) (λ x. x ⊕ items_jj vi vj r) s))

    pub sums_only : only (divided vi vj (over (of_shared only vi vj) none rs)) ≡ only (shared vi vj rs)
    sums_only =
        ap (λ (x : Sums). only (divided vi vj (over (of_shared only vi vj) x rs))) (sym laws.of_none)
        ∙ ap (λ (x : Sums). only (divided vi vj x)) (sym (kept none rs))
        ∙ laws.of_each (λ x. x) (λ x. x ⊘ vi) (λ x. x ⊘ vj) (λ x. x ⊘ (vi ⊗ vi)) (λ x. x ⊘ (vi ⊗ vj)) (λ x. x ⊘ (vj ⊗ vj)) (over (step Shared vi vj) none rs)
        ∙ ap only shared_sums

  pub sums_0_j : only_0_j (divided vi vj (over (of_shared only_0_j vi vj) none rs)) ≡ only_0_j (shared vi vj rs)
  sums_0_j = sums_only only_0_j laws_0_j

  pub sums_i_j : only_i_j (divided vi vj (over (of_shared only_i_j vi vj) none rs)) ≡ only_i_j (shared vi vj rs)
  sums_i_j = sums_only only_i_j laws_i_j

  pub sums_i_ii_ij_jj : only_i_ii_ij_jj (divided vi vj (over (of_shared only_i_ii_ij_jj vi vj) none rs)) ≡ only_i_ii_ij_jj (shared vi vj rs)
  sums_i_ii_ij_jj = sums_only only_i_ii_ij_jj laws_i_ii_ij_jj

  -- ---- the sums of one derivative each
  pub direct_sums : (di dj : Order) → (over (step (Direct di dj) vi vj) none rs).zero ≡ total (term di dj vi vj) rs
  direct_sums di dj = direct_sum vi vj none rs di dj
