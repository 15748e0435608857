-- Where a text is cut: at the first byte that passes a test.
use Rattle.std.specs.Prelude.{◌≡◌, ℕ, Bool, ◌||◌, List, ◌==◌}
use Rattle.std.specs.List.{position_or_len, before_first, after_first}

-- a line feed
abbrev pub is_line_end : ℕ → Bool
is_line_end c = c == 10

-- the sign # of a comment
abbrev pub is_comment : ℕ → Bool
is_comment c = c == 35

-- a space, a tab or a carriage return
abbrev pub is_blank : ℕ → Bool
is_blank c = c == 32 || (c == 9 || c == 13)

-- a call at a byte gives what the test gives there; `gives c r` says that a call at c may give r
abbrev pub Answers : (ℕ → Bool → Type 0) → (ℕ → Bool) → Type 0
Answers gives test = (c : ℕ) (r : Bool) → gives c r → r ≡ test c

-- the place of the first byte that passes, or the length of the text
abbrev pub stop_place : (ℕ → Bool) → List ℕ → ℕ
stop_place test cs = position_or_len test cs

-- the text before the first byte that passes
abbrev pub first_piece : (ℕ → Bool) → List ℕ → List ℕ
first_piece test cs = before_first test cs

-- the text behind that byte
abbrev pub after_piece : (ℕ → Bool) → List ℕ → List ℕ
after_piece test cs = after_first test cs
