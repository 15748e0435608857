-- The number of each refusal of a run, and what an answer tells.
use Rattle.std.specs.Prelude.{◌≡◌, ℕ, ◌⊎◌, Some, None, Ok, Err, Option, Result}
use Rattle.pacer.specs.declared.refusal.CueRefusal.{CueRefusal}
use Rattle.pacer.specs.declared.refusal.CueRefusal.TheVariants.{NoSuchStep, Cued, Past, Late, NotReady, Early}
use Rattle.pacer.specs.declared.refusal.OpenRefusal.{OpenRefusal}
use Rattle.pacer.specs.declared.refusal.OpenRefusal.TheVariants.{Limits, Tables}
use Rattle.pacer.specs.declared.refusal.WaitRefusal.{WaitRefusal}
use Rattle.pacer.specs.declared.refusal.WaitRefusal.TheVariants as wait

abbrev pub open_number : OpenRefusal → ℕ
open_number Limits = 7
open_number Tables = 8

abbrev pub cue_number : CueRefusal → ℕ
cue_number NoSuchStep = 10
cue_number Cued = 11
cue_number Past = 12
cue_number Late = 13
cue_number NotReady = 14
cue_number Early = 15

abbrev pub wait_number : WaitRefusal → ℕ
wait_number wait.AllCued = 16
wait_number wait.Past = 12
wait_number wait.Late = 13

abbrev pub no_such_step : ℕ
no_such_step = 10

abbrev pub too_short : ℕ
too_short = 8

-- the number that an answer refuses with, and none where the call is taken
abbrev pub refused_with : {A E : Type 0} → (E → ℕ) → Result A E → Option ℕ
refused_with number (Ok x) = None
refused_with number (Err e) = Some (number e)

-- the number is given where the test holds; where it does not, the rest decides
abbrev pub Given : ℕ → Type 0 → (Option ℕ → Type 0) → Option ℕ → Type 0
Given number Test rest answer = (Test × (answer ≡ Some number)) ⊎ ((Test → ⊥) × rest answer)

-- no test is left
abbrev pub Taken : Option ℕ → Type 0
Taken answer = answer ≡ None
