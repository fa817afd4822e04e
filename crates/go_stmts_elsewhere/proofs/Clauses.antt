-- The statements of a clause are read as those of a block.
use Rattle.std.proofs.Common.{◌≡◌, ◌∙◌, [], ◌∷◌, ◌++◌, Some, None, refl}
use Rattle.go_grammar.specs.declared.kind.Kind.{Kind}
use Rattle.go_grammar.specs.declared.kind.Kind.TheVariants as kind
use Rattle.go_grammar.specs.Trees.{Trees, none, more, skip}
use Rattle.go_exprs_rules.specs.Scopes.{Hint, value}
use Rattle.go_exprs_rules.specs.Settling.{Part}
use Rattle.go_exprs_rules.specs.Tables.{Parts}
use Rattle.go_stmts_defs.specs.Frames.{Frame}
use Rattle.go_stmts_defs.specs.Reading.{Found, Reading, read, Readings, after, reading, readings}
use Rattle.go_stmts_elsewhere.specs.Gaps.{IsList, run, fronted}
use Rattle.go_stmts_elsewhere.proofs.Gaps.{apart}

-- what follows a part, whichever of the two is read
same_after : (r : Reading) (n o : Part → Found → Frame → Readings) → ((x : Part) (gs : Found) (u : Frame) → n x gs u ≡ o x gs u) → after r n ≡ after r o
same_after (read x gs u) n o e = e x gs u

case_as_block : (s : Frame) (h : Hint) (all : Trees) (xs : Parts) (fs : Found) (ts : Trees) → readings s kind.Case h all xs fs ts ≡ readings s kind.Block h all xs fs ts
case_as_block s h all xs fs none = refl
case_as_block s h all xs fs (skip ts) = case_as_block s h all (xs ++ None ∷ []) (fs ++ []) ts
case_as_block s h all xs fs (more t ts) =
    same_after (reading s value t) (λ x gs u. readings u kind.Case h all (xs ++ Some x ∷ []) (fs ++ gs) ts) (λ x gs u. readings u kind.Block h all (xs ++ Some x ∷ []) (fs ++ gs) ts)
    (λ x gs u. case_as_block u h all (xs ++ Some x ∷ []) (fs ++ gs) ts)

default_as_block : (s : Frame) (h : Hint) (all : Trees) (xs : Parts) (fs : Found) (ts : Trees) → readings s kind.Default h all xs fs ts ≡ readings s kind.Block h all xs fs ts
default_as_block s h all xs fs none = refl
default_as_block s h all xs fs (skip ts) = default_as_block s h all (xs ++ None ∷ []) (fs ++ []) ts
default_as_block s h all xs fs (more t ts) =
    same_after (reading s value t) (λ x gs u. readings u kind.Default h all (xs ++ Some x ∷ []) (fs ++ gs) ts) (λ x gs u. readings u kind.Block h all (xs ++ Some x ∷ []) (fs ++ gs) ts)
    (λ x gs u. default_as_block u h all (xs ++ Some x ∷ []) (fs ++ gs) ts)

pub list_read : (k : Kind) → IsList k → (s : Frame) (h : Hint) (all : Trees) (xs : Parts) (fs : Found) (ts : Trees) → readings s k h all xs fs ts ≡ fronted xs fs (run s ts)
list_read kind.Block w s h all xs fs ts = apart s h all xs fs ts
list_read kind.Case w s h all xs fs ts = case_as_block s h all xs fs ts ∙ apart s h all xs fs ts
list_read kind.Default w s h all xs fs ts = default_as_block s h all xs fs ts ∙ apart s h all xs fs ts
list_read k w s h all xs fs ts = absurd w
