-- The lines of a text, taken one after the other with their numbers.
use Rattle.std.specs.Prelude.{◌≡◌, ℕ, ◌+◌, List, [], ◌∷◌, Some, None, Option}
use denote.Ref.{Bor}

-- of the lines ls, the first of them line k, one was taken with its number, and the lines more are left, the first of them line m; or there was none
abbrev pub TakesLine : ℕ → List (List ℕ) → Option (ℕ × Bor (List ℕ)) → ℕ → List (List ℕ) → Type 0
TakesLine k ls None m more = (ls ≡ []) × (more ≡ []) × (m ≡ k)
TakesLine k ls (Some taken) m more = (taken.0 ≡ k) × (ls ≡ taken.1.now ∷ more) × (m ≡ k + 1)
