-- How a job and a setter's memory stand between two calls.
use Rattle.std.specs.Prelude.{ℕ, ◌-◌, min, List, ◌++◌, length, take, drop, Option}
use Rattle.tables.specs.declared.modules.Modules.{Modules}
use Rattle.walks.specs.declared.state.Search.{Search}
use Rattle.desks.specs.declared.desk.Desk.{Desk}
use Rattle.runs.specs.declared.call.Row.{Row}

-- the modules with their masks, the walk that is open, the sheet, and the memory that rows are in
pub record Stand (C : Type 0) : Type 0 where
  pub modules : Modules
  pub current : Option (Search C)
  pub sheet : List ℕ
  pub memory : List ℕ

-- the same of a job at its desk
abbrev pub stand_of : {C W : Type 0} → Desk C W → List ℕ → List ℕ → Stand C
stand_of desk sheet memory = record { modules = desk.job.modules; current = desk.job.current; sheet = sheet; memory = memory }

-- where a row begins in the memory, and how many of its bytes are there
abbrev pub begin_of : List ℕ → Row → ℕ
begin_of memory row = min row.from (length memory)

abbrev pub size_of : List ℕ → Row → ℕ
size_of memory row = min row.len (length memory - begin_of memory row)

-- the row that is brought
abbrev pub row_of : List ℕ → Row → List ℕ
row_of memory row = take (size_of memory row) (drop (begin_of memory row) memory)

-- the memory with other bytes in the place of the row
abbrev pub with_row : List ℕ → Row → List ℕ → List ℕ
with_row memory row bytes = take (begin_of memory row) memory ++ (bytes ++ drop (size_of memory row) (drop (begin_of memory row) memory))
