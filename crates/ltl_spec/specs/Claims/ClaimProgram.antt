-- The program of a never claim: a list of statements, numbered from 0.
use Rattle.std.specs.Prelude.{ℕ, Bool, List, Option}
use Rattle.ltl_spec.specs.Semantics.Word.{Name}

-- a condition on a letter
pub data Guard : Type 0 where
  Constant : Bool → Guard
  Named : Name → Guard
  Not : Guard → Guard
  And Or : Guard → Guard → Guard

-- what comes next in a list: the statement with a number, `goto` a label, `break`, or the end of the list
pub data Link : Type 0 where
  Go : ℕ → Link
  Jump : Name → Link
  Leave Nothing : Link

-- what an option begins with: a guard g, `assert(g)`, `atomic { g -> assert(h) }`, `else`, or a jump
pub data First : Type 0 where
  Test Check : Guard → First
  Both : Guard → Guard → First
  Otherwise : First
  Leaps : Link → First

-- an option, and what comes behind its first part
pub record ClaimOption : Type 0 where
  pub first : First
  pub next : Link

-- The `if` or `do` in whose option it stands, whether it is a `do`, its options, and what comes next. One that is no `if` or `do` has the one
-- option that begins with it
pub record Statement : Type 0 where
  pub around : Option ℕ
  pub loops : Bool
  pub options : List ClaimOption
  pub next : Link

-- a label and the number of its statement
pub record ClaimLabel : Type 0 where
  pub name : Name
  pub statement : ℕ

-- what comes first, the statements, the labels, and in the order of the text the words behind each `goto` and the names in guards
pub record Program : Type 0 where
  pub start : Link
  pub statements : List Statement
  pub labels : List ClaimLabel
  pub gotos : List Name
  pub names : List Name
