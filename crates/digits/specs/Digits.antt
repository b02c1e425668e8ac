-- A number written in lower-case hexadecimal digits. Assumes nothing.
use Rattle.std.specs.Prelude.{ℕ, ◌+◌, ◌-◌, ◌*◌, cond, ◌&&◌, List, [], ◌∷◌, ltb, leb, length, Option, Some, None}
use Rattle.std.specs.Option.{option_and_then}

-- the value of `0` to `9` and `a` to `f`
abbrev pub digit_of : ℕ → Option ℕ
digit_of b =
    cond (leb 48 b && leb b 57) (Some (b - 48))
    (cond (leb 97 b && leb b 102) (Some (b - 97 + 10))
    None)

-- n, and then the digits that follow it
unfoldable pub number_from : ℕ → List ℕ → Option ℕ
number_from n [] = Some n
number_from n (b ∷ bs) = option_and_then (λ d. number_from (n * 16 + d) bs) (digit_of b)

-- the number that up to sixteen digits write
abbrev pub number_of : List ℕ → Option ℕ
number_of bs = cond (ltb 16 (length bs)) None (number_from 0 bs)
