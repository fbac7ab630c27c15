-- Which box a line has.
use Rattle.std.specs.Prelude.{List, [], ◌∷◌, Option, Some, None}
use Rattle.tg_model.specs.declared.value.Value.{Value}
use Rattle.tg_text.specs.declared.line.Line.{Line}
use Rattle.tg_text.specs.declared.line.Line.TheVariants as line
use Rattle.tg_threads.specs.declared.task.Task.{Task}

-- a line, and the value in its box
pub record Boxed : Type 0 where
  pub line : Line
  pub value : Option Value

abbrev pub first_of : List Value → Option Value
first_of [] = None
first_of (value ∷ stock) = Some value

abbrev pub behind_first : List Value → List Value
behind_first [] = []
behind_first (value ∷ stock) = stock

-- a create line and a spawn line have the first box that is left
abbrev pub box_of : List Value → Line → Option Value
box_of stock (line.Create x label) = first_of stock
box_of stock (line.Spawn x label) = first_of stock
box_of stock (line.Edge edge) = None
box_of stock (line.Plain x command) = None
box_of stock line.Full = None
box_of stock line.Minor = None

-- and use it up, whatever becomes of the line
abbrev pub stock_behind : List Value → Line → List Value
stock_behind stock (line.Create x label) = behind_first stock
stock_behind stock (line.Spawn x label) = behind_first stock
stock_behind stock (line.Edge edge) = stock
stock_behind stock (line.Plain x command) = stock
stock_behind stock line.Full = stock
stock_behind stock line.Minor = stock

-- so the i-th of these lines has the i-th box of the stock
abbrev pub boxed : List Value → List Line → List Boxed
boxed stock [] = []
boxed stock (l ∷ lines) = record { line = l; value = box_of stock l } ∷ boxed (stock_behind stock l) lines

-- a task's line, with the value of its payload
abbrev pub boxed_of : {P : Type 0} → Task P → Boxed
boxed_of t = record { line = t.line; value = t.draft }
