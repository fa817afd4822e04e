use Rattle.std.proofs.Common.{◌≡◌, ℕ, ◌||◌, List, drop, map}
use Rattle.std.specs.Borrow.{Bor}
use Rattle.std.specs.HashSet as set
use Rattle.std.specs.List.{list_any}
use Rattle.go_tokens.specs.Spellings.{same_text}
use Rattle.escape_check.specs.Texts.{same_bytes}
use Rattle.escape_check.specs.Types.{TypeName}
use Rattle.escape_check.specs.Written.{type_name_view}
use Rattle.escape_check.proofs.hidden_names.words_of.Given as goal

abbrev pub invariant-loop-name : goal.invariant-loop-name
invariant-loop-name l =
    (w : Bor (List ℕ)) → (set.contains same_bytes l.words w || list_any (λ (x : TypeName). same_text x.name w.now) (map type_name_view (drop l.name-index l.names)))
    ≡ list_any (λ (x : TypeName). same_text x.name w.now) (map type_name_view l.names)
