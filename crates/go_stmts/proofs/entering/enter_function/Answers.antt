use Rattle.std.proofs.Common.{◌≡◌, ◌<◌, [], ◌∷◌, length, map, ap, sym, subst, ◌∙◌}
use Rattle.std.specs.List.{AllByRecursion}
use Rattle.std.specs.Option.{option_map}
use Rattle.go_typed.specs.Views.{seen}
use Rattle.go_exprs_rules.specs.Scopes.{Scope}
use Rattle.go_exprs_rules.specs.TypeNodes.{entry_types, part_type}
use Rattle.go_exprs_rules.specs.Tables.{Parts}
use Rattle.go_stmts_defs.specs.Frames.{Frame}
use Rattle.go_stmts_defs.specs.Reading.{first_parts, entry_names, signature_results, with_parameters, in_function}
use Rattle.go_stmts_rules.specs.Seen.{locals_in, types_seen}
use Rattle.go_stmts.specs.Signatures.{entries_seen}
use Rattle.go_stmts.specs.State.{Shows}
use Rattle.go_stmts.proofs.FrameParameters.{alone}
use Rattle.go_stmts.proofs.Showing.{shows_declared}
use Rattle.go_stmts.proofs.entering.enter_function.Goals as goal

pub returns-clause-frame : goal.returns-clause-frame
returns-clause-frame c = λ o x rs s has.
    let t = c.args.types.now in
    let f = option_map (seen t) in
    let k = c.args.state.now in
    let g = f c.signature-item.result in
    let own = c.of.ensures ∙ c.in_ok-own.ensures.items in
    let u : Frame = record s { results = signature_results s (part_type g) } in
    let there : Shows t o k x c.of.result u = record {
      names = has.names;
      locals = has.locals;
      source = has.source;
      tag = has.tag;
      results = sym (ap (types_seen t) own ∙ c.signature_results.ensures.tree s (ap (λ (z : Scope). z.rights) has.names));
      types = has.types;
    } in
    let names = c.deref.ensures.value ∙ c.in_ok-names.ensures ∙ ap entry_names c.parameters-entries.ensures.parts in
    let types = ap (entries_seen t) c.deref-2.ensures.value ∙ c.in_ok-of.ensures.tree ∙ ap entry_types c.parameters-entries.ensures.parts in
    let ls = c.declare_parameters.new.locals in
    let only : map f c.args.parts.now ≡ g ∷ [] = ap (map f) (alone c.args.parts.now c.signature-item.result c.in-len1.len_at_least c.in-len1.len_below c.signature-item.is) in
    let same : record u { locals = locals_in t ls } ≡ in_function (map f c.args.parts.now) s =
    sym (c.declare_parameters.ensures.locals u has.locals)
    ∙ ap (λ ns. with_parameters ns (entries_seen t c.deref-2.result.now) u) names
    ∙ ap (λ ts. with_parameters (entry_names (first_parts g)) ts u) types
    ∙ ap (λ (ps : Parts). in_function ps s) (sym only) in
    subst (Shows t o (record k { locals = ls }) x c.of.result) same (shows_declared t o k x c.of.result u there ls c.declare_parameters.ensures.iota)

pub returns-clause-known : goal.returns-clause-known
returns-clause-known c = λ o x rs h. record {
  around = h.around;
  locals = c.declare_parameters.ensures.known;
  source = h.source;
  tag = h.tag;
  results = subst (AllByRecursion (λ n. n < length c.args.types.now.shapes)) (sym (c.of.ensures ∙ c.in_ok-own.ensures.items)) c.signature_results.ensures.known;
}
