-- What the proofs of other crates use of this crate's proofs. Declares nothing.
pub use Rattle.go_heads.proofs.Apart.{Begins, IsAside, begins, function_it, in_order}
pub use Rattle.go_heads.proofs.Blocks.{In}
pub use Rattle.go_heads.proofs.Bodies.{inside, row_before}
pub use Rattle.go_heads.proofs.Counting.{place_next, place_order, places_stay}
pub use Rattle.go_heads.proofs.Declared.{IsHeaded, each_both, file_headed}
pub use Rattle.go_heads.proofs.Files.{first_same, one_outline, others_same, some_not_none}
pub use Rattle.go_heads.proofs.Fresh.{Every, Other, every_append, every_map, other_found, texts_at}
pub use Rattle.go_heads.proofs.Functions.{Framed, alone_same, framed, same_some, some_none}
pub use Rattle.go_heads.proofs.Lookups.{count_kinds, read_at, token_told}
pub use Rattle.go_heads.proofs.Meanings.{IsAway, every_new, find, imported_away, imports_told, local_object, orderly, outer_object, outer_reached}
pub use Rattle.go_heads.proofs.Names.{AllStand, Among, NamesIn, Stands, all_names, among, around_part, before, behind, declares, each_left, each_right, file_stands, found_append, function_there, names_moved, ordered_names, rest, stands_at, tell}
pub use Rattle.go_heads.proofs.Numbers.{bare_functions}
pub use Rattle.go_heads.proofs.Objects.{Entry, StandFrom, entries_same, entry, new_append, stand_from}
pub use Rattle.go_heads.proofs.Outlines.{AllSit, OthersSit, Sits, file_sat, function_kind, plain_none, plain_same}
pub use Rattle.go_heads.proofs.Pairs.{Lies}
pub use Rattle.go_heads.proofs.Parts.{IsThere, is_there}
pub use Rattle.go_heads.proofs.Scopes.{IsBodily, Shared, locals_bodily, tree_shared}
pub use Rattle.go_heads.proofs.Shifted.{IsOwn, IsOwnSource, eq_moved, numbered_own, own_by, up_meaning}
pub use Rattle.go_heads.proofs.TokenNumbers.{BeginsFunction, behind_entries, numbered_same}
pub use Rattle.go_heads.proofs.Tokens.{all_meanings, before_aside, begins_function, behind_aside, imports_aside, local_inmost, meant_own, object_own, objects_before}
pub use Rattle.go_heads.proofs.Told.{behind_imports, locals_as_many}
pub use Rattle.go_heads.proofs.Words.{texts_length}
