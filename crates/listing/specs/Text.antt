-- The text of a listing and of a refusal, as bytes.
use Rattle.std.specs.Prelude.{ℕ, ◌+◌, List, [], ◌∷◌, ◌++◌, Some, None, codes, decimal, Option}
use Rattle.network.specs.declared.tables.GroupEntry.{GroupEntry}
use Rattle.network.specs.declared.tables.Link.{Link as LinkT}
use Rattle.network.specs.Words.{kind_word}
use Rattle.listing.specs.declared.line.Line.{Line}
use Rattle.listing.specs.declared.line.Line.TheVariants.{Step, Link, Refused}

-- words with a blank between each two, and a line feed at the end
abbrev pub spaced : List (List ℕ) → List ℕ
spaced [] = 10 ∷ []
spaced (w ∷ []) = w ++ (10 ∷ [])
spaced (w ∷ v ∷ ws) = w ++ (32 ∷ spaced (v ∷ ws))

-- the line of a step: its number, its leader, and how many seconds it comes after the leader
abbrev pub step_line : ℕ → GroupEntry → List ℕ
step_line i g = spaced (codes "step" ∷ decimal i ∷ decimal g.leader ∷ decimal g.offset ∷ [])

-- the line of a link
abbrev pub link_line : LinkT → List ℕ
link_line l = spaced (codes "link" ∷ decimal l.trigger ∷ decimal l.target ∷ kind_word l.kind ∷ decimal l.seconds ∷ [])

-- the lines of steps, the first of which is step i
abbrev pub step_lines : ℕ → List GroupEntry → List ℕ
step_lines i [] = []
step_lines i (g ∷ gs) = step_line i g ++ step_lines (i + 1) gs

-- the lines of links
abbrev pub link_lines : List LinkT → List ℕ
link_lines [] = []
link_lines (l ∷ ls) = link_line l ++ link_lines ls

-- the listing: a line for each step, then a line for each link
abbrev pub listing_text : List GroupEntry → List LinkT → List ℕ
listing_text gs ls = step_lines 0 gs ++ link_lines ls

-- the line of a refusal: its number, and the place that it has, if any
abbrev pub refusal_text : ℕ → Option ℕ → List ℕ
refusal_text n None = spaced (codes "refused" ∷ decimal n ∷ [])
refusal_text n (Some p) = spaced (codes "refused" ∷ decimal n ∷ codes "at" ∷ decimal p ∷ [])

-- what a line says, as text
abbrev pub line_text : Line → List ℕ
line_text (Step i g) = step_line i g
line_text (Link l) = link_line l
line_text (Refused t) = refusal_text t.number t.place

-- the lines that are made of a list, the first entry of which stands at i
abbrev pub lines_from : {X : Type 0} → (ℕ → X → Line) → ℕ → List X → List ℕ
lines_from made i [] = []
lines_from made i (x ∷ xs) = line_text (made i x) ++ lines_from made (i + 1) xs
