-- What stands at a place of a level's code. This is scaffolding between the rules and the code: no public promise speaks of it.
use Rattle.std.specs.Prelude.{ℕ, List, drop}
use Rattle.level.specs.declared.store.Level.{Level}
use Rattle.level.specs.Levels.{code, meaning}
use Rattle.level.specs.Reading.{Read, read_effect, read_expr, read_exprs, read_stmt}
use Rattle.level.specs.Sound.{parameters}
use Rattle.level.specs.Syntax.{Expr, Stmt}

-- an expression that is at most n deep
abbrev pub expression_at : Level → ℕ → ℕ → Read Expr
expression_at l n i = read_expr n 8 (drop i (code l))

-- the expressions of a message of signal s
abbrev pub expressions_at : Level → ℕ → ℕ → Read (List Expr)
expressions_at l s i = read_exprs (parameters (meaning l).signals s) 8 (drop i (code l))

abbrev pub statement_at : Level → ℕ → Read Stmt
statement_at l i = read_stmt (meaning l).signals 8 (drop i (code l))

-- an effect of which n statements may still come
abbrev pub effect_at : Level → ℕ → ℕ → Read (List Stmt)
effect_at l n i = read_effect (meaning l).signals 8 n (drop i (code l))
