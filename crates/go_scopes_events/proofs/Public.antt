-- What the proofs of other crates use of this crate's proofs. Declares nothing.
pub use Rattle.go_scopes_events.proofs.Functions.{file_told}
pub use Rattle.go_scopes_events.proofs.Innermost.{meaning_reached}
pub use Rattle.go_scopes_events.proofs.Inside.{AreInner, IsInner, IsOther, derives_inner, each_between, file_inside, function_rule, is_top, parts_other, rule_inner, spells_inner, top_function, tree_other, true_false}
pub use Rattle.go_scopes_events.proofs.Layers.{AreLayered, ArePlain, Function, Holding, IsPlain, all_plain, and_both, derives_layered, has_plain, is_plain, layer, rule_plain, within_plain}
pub use Rattle.go_scopes_events.proofs.Locals.{locals_good}
pub use Rattle.go_scopes_events.proofs.Moved.{events_moved}
pub use Rattle.go_scopes_events.proofs.Nesting.{IsOnly, Lies, ScopeGives, body_behind, each_append, each_map, file_follows, file_nested, function_nested, misplaced_each, plain_only, second_each, self_gives, statement_each}
pub use Rattle.go_scopes_events.proofs.Outer.{AreOutside, IsNone, IsOuterContext, IsOutside, block_outer, derives_outside, file_behind, is_function, is_outer, own_outer, parameters_outer, role_outer}
pub use Rattle.go_scopes_events.proofs.Rising.{IsLaidOut, LieIn, behind_name, derives_laid, events_order, laid_grows, lie_order, parts_order}
pub use Rattle.go_scopes_events.proofs.Sweeps.{locals_are, over_later}
