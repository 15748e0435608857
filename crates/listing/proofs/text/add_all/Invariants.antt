use Rattle.std.proofs.Common.{◌≡◌, ℕ, ◌++◌, drop, string_bytes}
use Rattle.listing.specs.declared.line.Line.{Line}
use Rattle.listing.specs.Text.{lines_from}
use Rattle.listing.proofs.text.add_all.Given as goal

abbrev pub invariant-loop-place : goal.invariant-loop-place
invariant-loop-place g l =
    goal.F-IsAlwaysCallable g l.line
    × ((made : ℕ → _ → Line) → ((i : ℕ) (x : _) (y : Line) → goal.F-post g l.line i x y → y ≡ made i x)
    → string_bytes l.text ++ lines_from made l.place (drop l.place l.entries) ≡ string_bytes l.initial.text ++ lines_from made 0 l.entries)
