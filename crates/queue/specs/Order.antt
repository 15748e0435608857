-- Total orders, lists that ascend, and where one more entry is placed.
use Rattle.std.specs.Prelude.{◌≡◌, Bool, true, false, cond, List, [], ◌∷◌, ◌≢◌}
use Rattle.std.specs.List.{list_all}

-- of two entries exactly one holds: x comes first, y comes first, or they are equal
pub data OneOf {X : Type 0} (lt : X → X → Bool) (x y : X) : Type 0 where
  first : lt x y ≡ true → lt y x ≡ false → (x ≢ y) → OneOf lt x y
  second : lt x y ≡ false → lt y x ≡ true → (x ≢ y) → OneOf lt x y
  same : lt x y ≡ false → lt y x ≡ false → x ≡ y → OneOf lt x y

-- the order is total: it decides between any two entries, and is transitive
pub record Total {X : Type 0} (lt : X → X → Bool) : Type 0 where
  pub one : (x y : X) → OneOf lt x y
  pub onward : (x y z : X) → lt x y ≡ true → lt y z ≡ true → lt x z ≡ true

-- no entry of the list comes before x
abbrev pub NoneBefore : {X : Type 0} → (X → X → Bool) → X → List X → Type 0
NoneBefore lt x [] = Unit {0}
NoneBefore lt x (y ∷ ys) = (lt y x ≡ false) × NoneBefore lt x ys

-- no entry comes before an earlier one
abbrev pub Ascending : {X : Type 0} → (X → X → Bool) → List X → Type 0
Ascending lt [] = Unit {0}
Ascending lt (x ∷ xs) = NoneBefore lt x xs × Ascending lt xs

-- each entry comes before every later one
abbrev pub Strictly : {X : Type 0} → (X → X → Bool) → List X → Type 0
Strictly lt [] = Unit {0}
Strictly lt (x ∷ xs) = (list_all (lt x) xs ≡ true) × Strictly lt xs

-- the list with x behind the last entry that x does not come before
abbrev pub placed : {X : Type 0} → (X → X → Bool) → X → List X → List X
placed lt x [] = x ∷ []
placed lt x (y ∷ ys) = cond (list_all (lt x) (y ∷ ys)) (x ∷ (y ∷ ys)) (y ∷ placed lt x ys)
