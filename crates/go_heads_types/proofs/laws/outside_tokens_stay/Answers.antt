use Rattle.go_heads_types.proofs.Outside.{outside_kept}
use Rattle.go_heads_types.proofs.laws.outside_tokens_stay.Goals as goal

pub returns : goal.returns
returns c old new h k p q x y e =
    outside_kept (record {
      orderly = c.files_are_orderly.ensures;
      order = c.names_are_in_order.ensures;
      declared = c.functions_declare_by_themselves.ensures;
      locals = c.locals_follow_from_functions.ensures;
      meanings = c.names_keep_their_meanings.ensures;
      lookups = c.names_keep_their_objects.ensures;
    }) old new (record { read = h; read_new = k; named = p; named_new = q; faultless = x; faultless_new = y; same = e })
