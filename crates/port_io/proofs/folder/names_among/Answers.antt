use Rattle.std.proofs.Common.{rules, arith, ◌≡◌, [], ◌∷◌, ◌++◌, Some, None, Ok, ap, sym, ◌∙◌}
use Rattle.std.specs.Option.{option_map}
use Rattle.port_io.specs.Listing.{names_told}
use Rattle.port_io.proofs.ListingLemmas.{told_none, told_name}
use Rattle.port_io.proofs.folder.names_among.Goals as goal

pub loop-entry-preserved-in-Continue-branch-3 : goal.loop-entry-preserved-in-Continue-branch-3
loop-entry-preserved-in-Continue-branch-3 g c =
    let entry : c.in-Some.entry ≡ Ok (Some c.in-Some-2.name) = search rules in
    let items : c.push.new.self.items ≡ c.loop-entry.names.items ++ c.in-Some-2.name ∷ [] = search rules in
    ap (λ e. names_told (c.loop-entry.yielded ++ e ∷ [])) entry ∙ told_name c.loop-entry.yielded c.in-Some-2.name ∙ ap (option_map (λ ns. ns ++ c.in-Some-2.name ∷ [])) c.loop-entry.invariant ∙ ap Some (sym items)

pub loop-entry-preserved : goal.loop-entry-preserved
loop-entry-preserved g c =
    let entry : c.in-Some.entry ≡ Ok None = grind arith in
    ap (λ e. names_told (c.loop-entry.yielded ++ e ∷ [])) entry ∙ told_none c.loop-entry.yielded ∙ c.loop-entry.invariant
