-- Functions in scopes that differ in the numbers of declared types.
use Rattle.std.proofs.Common.{◌≡◌, ◌∙◌, ℕ, List, [], ◌∷◌, map, length, Option, Some, None, refl, sym, ap, subst}
use Rattle.std.specs.Option.{option_map, unwrap_or}
use Rattle.go_grammar.specs.Trees.{Tree, node, Trees, none, more, skip, last}
use Rattle.go_tree.specs.declared.object.Object.{Object}
use Rattle.go_tree.specs.declared.object.Object.TheVariants as object
use Rattle.go_tree.specs.declared.object.Predeclared.{Predeclared}
use Rattle.go_tree.specs.declared.object.Predeclared.TheVariants as predeclared
use Rattle.go_types.specs.Trees.{TypeTree}
use Rattle.go_typed.specs.Contents.{func_renamed}
use Rattle.go_typed.specs.declared.form.Form.TheVariants as form
use Rattle.go_types_relations.specs.Renaming.{renamed}
use Rattle.go_exprs_rules.specs.Faults.{judged, reported}
use Rattle.go_exprs_rules.specs.Names.{object_sort, object_form, predeclared_sort}
use Rattle.go_exprs_rules.specs.Scopes.{Needed, Scope, free}
use Rattle.go_exprs_rules.specs.Settling.{Part}
use Rattle.go_exprs_rules.specs.TypeNodes.{part_type}
use Rattle.go_exprs_rules.specs.declared.fault.TypeFault.{TypeFault}
use Rattle.go_stmts_defs.specs.Bodies.{numbers_from, start, token_locals, signature_in, signature_part, signature_of, no_function, function_read}
use Rattle.go_stmts_defs.specs.Frames.{Frame, Locals, local_stands}
use Rattle.go_stmts_defs.specs.Laying.{local_named}
use Rattle.go_stmts_defs.specs.Reading.{Reading, read, reading, first_parts, entry_names}
use Rattle.go_package_defs.specs.Bodies.{behind_read, function_in}
use Rattle.go_renumbering.specs.Renumbered.{stands_renamed, part_renamed, RenamedScopes}
use Rattle.go_renumbering.proofs.Parts.{optional}
use Rattle.go_renumbering.proofs.Sorts.{maybe}
use Rattle.go_renumbering.proofs.TypeNodes.{type_kept}
use Rattle.go_renumbering.proofs.Typing.{typed_renamed}
use Rattle.go_renumbering.specs.Frames.{locals_renamed, RenamedFrames, RenamedReadings}
use Rattle.go_renumbering.proofs.Assigning.{mapped_length}
use Rattle.go_renumbering.proofs.Entering.{entry_names_same, first_parts_kept}
use Rattle.go_renumbering.proofs.Framed.{local_same, name_form_same}
use Rattle.go_renumbering.proofs.Reading.{reading_kept}
use Rattle.go_renumbering.specs.Functions.{RenamedFunctions}

mapped_over : {A B : Type 0} (f : ℕ → A) (g : ℕ → B) (h : A → B) → ((i : ℕ) → g i ≡ h (f i)) → (ns : List ℕ) → map g ns ≡ map h (map f ns)
mapped_over f g h e [] = refl
mapped_over f g h e (n ∷ ns) = ap (λ x. x ∷ map g ns) (e n) ∙ ap (λ xs. h (f n) ∷ xs) (mapped_over f g h e ns)

mapped_same : {A : Type 0} (f g : ℕ → A) → ((i : ℕ) → g i ≡ f i) → (ns : List ℕ) → map g ns ≡ map f ns
mapped_same f g e [] = refl
mapped_same f g e (n ∷ ns) = ap (λ x. x ∷ map g ns) (e n) ∙ ap (λ xs. f n ∷ xs) (mapped_same f g e ns)

form_same : (s t : Scope) → ((n : ℕ) → t.referents n ≡ s.referents n) → (o : Option Object) → object_form t o ≡ object_form s o
form_same s t e None = refl
form_same s t e (Some object.Import) = refl
form_same s t e (Some (object.Predeclared p)) = refl
form_same s t e (Some (object.Package n)) = ap form.Object (e n)
form_same s t e (Some (object.Local f n)) = refl

module _ (name : ℕ → ℕ) where
  predeclared_same : (n : ℕ) (p : Predeclared) → predeclared_sort n p ≡ stands_renamed name (predeclared_sort n p)
  predeclared_same n predeclared.Bool = refl
  predeclared_same n p = refl

  unwrapped : (o : Option TypeTree) → unwrap_or (maybe name o) no_function ≡ renamed name (unwrap_or o no_function)
  unwrapped None = refl
  unwrapped (Some t) = refl

  module _ (f g : Frame) (c : RenamedFrames name f g) where
    -- ---- around a function

    object_same : (n : Needed) (o : Option Object) → object_sort g.around n o ≡ stands_renamed name (object_sort f.around n o)
    object_same n None = refl
    object_same n (Some object.Import) = refl
    object_same n (Some (object.Predeclared p)) = ap (λ k. predeclared_sort k p) c.iota ∙ predeclared_same f.around.iota p
    object_same n (Some (object.Package m)) = c.sorts n (object.Package m)
    object_same n (Some (object.Local d m)) = c.sorts n (object.Local d m)

    around_renamed : RenamedScopes name f.around g.around
    around_renamed = record {
      one_to_one = c.one_to_one;
      rights = c.rights;
      texts = c.texts;
      characters = c.characters;
      standing = λ n i. ap (object_sort g.around n) (c.objects i) ∙ object_same n (f.around.objects i);
      object = λ i. ap (object_form g.around) (c.objects i) ∙ form_same f.around g.around c.referents (f.around.objects i);
      declared = name_form_same name f g c;
      needed = c.needed;
      limits = c.limits;
    }

    signature_part_same : (ps : Trees) → signature_part g.around (signature_in ps) ≡ optional name (signature_part f.around (signature_in ps))
    signature_part_same none = refl
    signature_part_same (more x ps) = ap (λ y. Some y) (typed_renamed name f.around g.around free x around_renamed).typed
    signature_part_same (skip ps) = refl

    signature_same : (t : Tree) → signature_of g.around t ≡ optional name (signature_of f.around t)
    signature_same (node k i j ps) = signature_part_same ps

    -- ---- what a function is

    type_same : (x : Option Part) → unwrap_or (part_type (optional name x)) no_function ≡ renamed name (unwrap_or (part_type x) no_function)
    type_same x = ap (λ o. unwrap_or o no_function) (type_kept name x) ∙ unwrapped (part_type x)

    parameters_same : (x : Option Part) → entry_names (first_parts (optional name x)) ≡ entry_names (first_parts x)
    parameters_same x = ap entry_names (first_parts_kept name x) ∙ entry_names_same name (first_parts x)

    tokens_same : (n : ℕ) → token_locals g.around n ≡ token_locals f.around n
    tokens_same n = mapped_same (λ i. local_named (f.around.objects i)) (λ i. local_named (g.around.objects i)) (λ i. ap local_named (c.objects i)) (numbers_from 0 n)

  locals_same : (ls ms : Locals) → ms ≡ locals_renamed name ls → map (local_stands ms) (numbers_from 0 (length ms)) ≡ map (stands_renamed name) (map (local_stands ls) (numbers_from 0 (length ls)))
  locals_same ls ms e =
      ap (λ os. map (local_stands os) (numbers_from 0 (length os))) e
      ∙ ap (λ n. map (local_stands (locals_renamed name ls)) (numbers_from 0 n)) (mapped_length (λ o. option_map (stands_renamed name) o) ls)
      ∙ mapped_over (local_stands ls) (local_stands (locals_renamed name ls)) (stands_renamed name) (local_same name ls) (numbers_from 0 (length ls))

  module _ (s t : Scope) (count : ℕ) (types others : ℕ → ℕ) (c : RenamedFrames name (start s count types) (start t count others)) (number : ℕ) (x : Tree) where
    function_same : (y z : Part) (f g : Frame) → z ≡ part_renamed name y → RenamedFrames name f g
        → function_read t number (last x) (signature_of t x) z g ≡ func_renamed name (function_read s number (last x) (signature_of s x) y f)
    function_same y z f g e r =
        let old = start s count types in
        let new = start t count others in
        let known = signature_of s x in
        let told : signature_of t x ≡ optional name known = signature_same old new c x in
        let signature = ap (λ o. unwrap_or (part_type o) no_function) told ∙ type_same old new c known in
        let parameters = ap (λ o. entry_names (first_parts o)) told ∙ parameters_same old new c known in
        let locals = locals_same f.locals g.locals r.locals in
        let tokens = tokens_same old new c (last x) in
        cc

    judged_same : (r : Option TypeFault) (y z : Part) (f g : Frame) → z ≡ part_renamed name y → RenamedFrames name f g
        → RenamedFunctions name (judged r (record { function = function_read s number (last x) (signature_of s x) y f; rights = f.around.rights }))
        (judged r (record { function = function_read t number (last x) (signature_of t x) z g; rights = g.around.rights }))
    judged_same None y z f g e r = (function_same y z f g e r, r.rights)
    judged_same (Some fault) y z f g e r = refl

    read_same : (r q : Reading) → RenamedReadings name r q → RenamedFunctions name (behind_read s number x r) (behind_read t number x q)
    read_same (read y fs f) (read z gs g) (e, same, r) =
        subst (λ hs. RenamedFunctions name (behind_read s number x (read y fs f)) (behind_read t number x (read z hs g))) (sym same) (judged_same (reported fs) y z f g e r)

    pub functions_renamed : RenamedFunctions name (function_in s number count types x) (function_in t number count others x)
    functions_renamed = read_same (reading (start s count types) free x) (reading (start t count others) free x) (reading_kept name (start s count types) (start t count others) c free x)
