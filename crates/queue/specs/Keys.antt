-- The lexicographic order on rows of keys.
use Rattle.std.specs.Prelude.{ℕ, Bool, true, false, ◌&&◌, ◌||◌, List, [], ◌∷◌, ◌==◌, nat_lt}

-- the first numbers that differ decide, and a row comes before each longer row that begins with it
abbrev pub earlier : List ℕ → List ℕ → Bool
earlier [] [] = false
earlier [] (n ∷ ns) = true
earlier (m ∷ ms) [] = false
earlier (m ∷ ms) (n ∷ ns) = nat_lt m n || (m == n && earlier ms ns)
