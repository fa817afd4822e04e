use Rattle.std.proofs.Common.{◌∙◌, map, ap}
use Rattle.std.specs.List.{list_any}
use Rattle.go_tokens.specs.Spellings.{same_text}
use Rattle.escape_check.specs.Collecting.{names_of_type}
use Rattle.escape_check.specs.Stretches.{means_other}
use Rattle.escape_check.specs.Types.{TypeName}
use Rattle.escape_check.specs.Written.{type_name_view}
use Rattle.escape_check.proofs.Hiding.{hidden_alike}
use Rattle.escape_check.proofs.hidden_names.names_hidden_in.Goals as goal

pub returns : goal.returns
returns c =
    let p = c.args.checked.now in
    let file = c.args.file in
    hidden_alike p file (map type_name_view c.in_ok-names.names.items) (names_of_type p c.args.of) _ (λ test. c.in_ok-names.ensures test) (record {
      words = λ w. c.in_ok-words.ensures w ∙ ap (λ xs. list_any (λ (x : TypeName). same_text x.name w.now) (map type_name_view xs)) c.deref.ensures.value;
      order = c.in_ok-ordered.ensures.order;
      tokens = λ t l. c.in_ok-ordered.ensures.tokens t ∙ c.in_ok-stretches.ensures t l ∙ ap (λ xs. list_any (means_other p file t) (map type_name_view xs)) c.deref-2.ensures.value;
    })
