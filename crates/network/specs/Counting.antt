-- How many links a table of distances can give, so that the handed table always has room for them.
use Rattle.std.specs.Prelude.{ℕ, zero, suc, ◌+◌, cond, ℤ, pos, ◌==◌, int_le}
use Rattle.network.specs.declared.tables.Kind.{Kind}
use Rattle.network.specs.declared.tables.Kind.TheVariants.{Most, Least}

-- f 0 + f 1 + .. + f (n − 1)
abbrev pub sum_below : (ℕ → ℕ) → ℕ → ℕ
sum_below f zero = 0
sum_below f (suc n) = sum_below f n + f n

-- a most link from p to another step q is possible where d(p, q) is not below 0
abbrev pub most_count : (ℕ → ℕ → ℤ) → ℕ → ℕ → ℕ
most_count d p q = cond (p == q) 0 (cond (int_le (pos 0) (d p q)) 1 0)

-- a least link from p to another step q is possible where d(q, p) is below 0
abbrev pub least_count : (ℕ → ℕ → ℤ) → ℕ → ℕ → ℕ
least_count d p q = cond (p == q) 0 (cond (int_le (pos 0) (d q p)) 0 1)

-- the most links of a kind from p to q
abbrev pub links_of_kind : Kind → (ℕ → ℕ → ℤ) → ℕ → ℕ → ℕ
links_of_kind Most d p q = most_count d p q
links_of_kind Least d p q = least_count d p q

-- the most links from p to q
abbrev pub links_between : (ℕ → ℕ → ℤ) → ℕ → ℕ → ℕ
links_between d p q = most_count d p q + least_count d p q

-- the most links with trigger p
abbrev pub links_from : ℕ → (ℕ → ℕ → ℤ) → ℕ → ℕ
links_from n d p = sum_below (links_between d p) n
