-- Points and brackets of a run, in exact units: doubles with their residuals, between the ends of a bracket w. What document 01's demand 3 asks of them follows, as the order of
-- doubles is that of exact values; and the brackets of any run are nested whose turns keep them so. Assumes nothing.
use mathlib.Core.Path.{◌≡◌, refl, sym, ap, ◌∙◌, subst, subst₂}
use mathlib.Core.Logic.{◌⊎◌}
use mathlib.Core.List.{List, ◌∷◌, map}
use Prim.Native.Nat.{ℕ, zero, suc, ◌+◌, ◌<◌}
use native.Mathlib.Nat.{le_refl, le_of_lt}
use native.Mathlib.Omega.{arith}
use lib.Dec.{T}
use lib.Ieee.{Float, le}
use Rattle.exact.specs.Value.{double, AtMost}
use Rattle.exact.specs.Rounding.{distance}
use Rattle.exact.proofs.Order.{lt→exact, exact→le}
use Rattle.std.specs.declared.ops.ControlFlow.{ControlFlow}
use Rattle.std.specs.declared.ops.ControlFlow.TheVariants.{Continue, Break}
use Rattle.search.specs.Run.{states_from}
use Rattle.search.specs.Demand.{Opposite, Zero, Start, Within, Signed, Nested, Lies, Enclosed}
use Rattle.search.specs.declared.bracket.Bracket.{Bracket}
use Rattle.search.specs.declared.bracket.Outcome.{Outcome}
use Rattle.search.proofs.Runs.{Hands, states_stop, states_go, states_first}

-- ---- x is a double with the residual r, between w's ends
pub record Place (f : Float → Float) (w : Bracket) (x r : Float) : Type 0 where
  pub is_double : T (double x)
  pub residual : r ≡ f x
  pub from_lower : AtMost w.x1 x
  pub to_upper : AtMost x w.x2

-- b's ends are such places
pub record Held (f : Float → Float) (w b : Bracket) : Type 0 where
  pub lower : Place f w b.x1 b.r1
  pub upper : Place f w b.x2 b.r2
  pub order : AtMost b.x1 b.x2

chain : (x y z : Float) → AtMost x y → AtMost y z → AtMost x z
chain x y z h k = omega (arith, h, k)

module _ {f : Float → Float} where
  moved : {w : Bracket} (v : Bracket) {x r : Float} → Place f w x r → AtMost v.x1 x → AtMost x v.x2 → Place f v x r
  moved v p l u = record { is_double = p.is_double; residual = p.residual; from_lower = l; to_upper = u }

  -- a place in b, and b in w
  pub widened : {w b : Bracket} {x r : Float} → Held f w b → Place f b x r → Place f w x r
  widened {w} {b} {x} h p = moved w p (chain w.x1 b.x1 x h.lower.from_lower p.from_lower) (chain x b.x2 w.x2 p.to_upper h.upper.to_upper)

  pub own : {w : Bracket} (b : Bracket) → Held f w b → Held f b b
  own b h = record { lower = moved b h.lower (le_refl _) h.order; upper = moved b h.upper h.order (le_refl _); order = h.order }

  at_most : {w v : Bracket} {x r y q : Float} → Place f w x r → Place f v y q → AtMost x y → T (le x y)
  at_most {w} {v} {x} {r} {y} {q} p o l = exact→le x y p.is_double o.is_double l

  pub within : {w b : Bracket} → Held f w w → Held f w b → Within b w
  within g h = record { from_lower = at_most g.lower h.lower h.lower.from_lower; to_upper = at_most h.upper g.upper h.upper.to_upper }

  pub signed : {w b : Bracket} → Held f w b → Opposite b.r1 b.r2 ⊎ Zero b.r1 ⊎ Zero b.r2 → Signed f b
  signed h o = record { lower_at = h.lower.residual; upper_at = h.upper.residual; signs = o }

  -- a start is such a bracket
  pub started : {s : Bracket} → Start f s → Held f s s
  started {s} g =
      let o : AtMost s.x1 s.x2 = le_of_lt (lt→exact s.x1 s.x2 g.lower g.upper g.order) in
      record {
        lower = record { is_double = g.lower; residual = g.lower_at; from_lower = le_refl _; to_upper = o };
        upper = record { is_double = g.upper; residual = g.upper_at; from_lower = o; to_upper = le_refl _ };
        order = o;
      }

  -- a place in a bracket, and the bracket in w
  pub lies : {w b : Bracket} {v r : Float} → Held f w w → Held f w b → Place f b v r → Lies w b v
  lies g h p = record { inside = within g h; above_lower = at_most h.lower p p.from_lower; below_upper = at_most p h.upper p.to_upper }

  -- a place in a narrow bracket with opposite residuals is enclosed
  pub enclosed : {w b : Bracket} {v r : Float} {near : ℕ} → Held f w w → Held f w b → Opposite b.r1 b.r2 → Place f b v r → distance b.x1 b.x2 < near → Enclosed f w b v near
  enclosed {w} {b} {v} {r} {near} g h o p l =
      record {
        lies = lies g h p;
        signs = subst₂ Opposite h.lower.residual h.upper.residual o;
        near_lower = omega (arith, l, p.from_lower, p.to_upper);
        near_upper = omega (arith, l, p.from_lower, p.to_upper);
      }

-- ---- the brackets that `view` shows of a run's states are nested, where each turn keeps P and goes inward
module _ {S : Type 0} (f : Float → Float) (view : S → Bracket) (next : S → ℕ → ControlFlow Outcome S) (P : S → Type 0)
    (shows : (s : S) → P s → Signed f (view s)) (turn : (s : S) (n : ℕ) → P s → Hands (λ o. Prim.Unit {0}) (λ c. P c × Within (view c) (view s)) (next s n)) where
  abbrev Views : List S → Type 0
  Views l = Nested f (map view l)

  pub nested : (k : ℕ) (s : S) (n : ℕ) → P s → Views (states_from next k s n)
  nested zero s n p = unfold states_from in shows s p
  nested (suc k) s n p = by (λ c. nested k c (n + 1)) (next s n) refl (turn s n p)
    where
      by : ((c : S) → P c → Views (states_from next k c (n + 1))) → (t : ControlFlow Outcome S) → next s n ≡ t → Hands (λ o. Prim.Unit {0}) (λ c. P c × Within (view c) (view s)) t → Views (states_from next (suc k) s n)
      by ih (Break o) e h = subst Views (sym (states_stop next k s n o e)) (shows s p)
      by ih (Continue c) e h =
          let r = states_first next k c (n + 1) in
          subst Views (sym (states_go next k s n c e ∙ ap (λ (l : List S). s ∷ l) r.1)) (shows s p, h.1, subst Views r.1 (ih c h.0))
