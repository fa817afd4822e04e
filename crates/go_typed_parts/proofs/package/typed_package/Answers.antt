use Rattle.std.proofs.Common.{◌∙◌, length, ap, arith, sym, rules}
use Rattle.std.specs.List.{list_all}
use Rattle.go_typed.specs.Packages.{counts_from, no_counts, is_known_func, is_known_tree}
use Rattle.go_typed.specs.Views.{view}
use Rattle.go_typed_parts.proofs.package.typed_package.Goals as goal

pub new-requires : goal.new-requires
new-requires c = record {
  names = omega (arith, c.len.ensures, c.len-2.ensures, c.if-len.false, c.args.names.ok, c.args.files.ok);
  files = omega (arith, c.len-else-len.ensures, c.files.ensures, c.if-len-files.false, c.args.files.ok);
  defined = c.requires.defined;
  origins = c.requires.origins;
  objects = c.are_objects.ensures.many c.if-not-are_objects.false;
  referents = c.are_objects.ensures.numbers c.if-not-are_objects.false;
  known_objects = c.are_objects.ensures.known c.if-not-are_objects.false;
  known_variables = sym (ap (list_all (λ n. is_known_tree (counts_from no_counts c.args.uses.package_level) (length c.args.types.shapes) (view n))) c.deref.ensures.value) ∙ c.are_trees.ensures.variables c.if-not-are_trees.false;
  known_functions = sym (ap (list_all (is_known_func (counts_from no_counts c.args.uses.package_level) (length c.args.types.shapes))) c.deref-else-not-are_objects.ensures.value) ∙ c.are_trees.ensures.functions c.if-not-are_trees.false;
  numbers = search rules;
  locals = search rules;
}
