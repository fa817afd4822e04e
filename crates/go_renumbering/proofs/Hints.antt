-- What parts are told, with other numbers of declared types.
use Rattle.std.proofs.Common.{◌≡◌, ◌∙◌, ℕ, [], ◌∷◌, Option, Some, None, refl, ap, cond}
use Rattle.go_grammar.specs.declared.kind.Kind.{Kind}
use Rattle.go_grammar.specs.declared.kind.Kind.TheVariants as kind
use Rattle.go_grammar.specs.Grammar.{ends_named, is_name}
use Rattle.go_grammar.specs.Trees.{Trees}
use Rattle.go_types.specs.Trees.{TypeTree, array, slice, structure}
use Rattle.go_types.specs.Relations.{Rights}
use Rattle.go_typed.specs.Trees.{typed}
use Rattle.go_types_relations.specs.Renaming.{renamed, IsOneToOne, AreRenamed}
use Rattle.go_exprs_rules.specs.Scopes.{Scope, Hint, value, type_place, loose, declares}
use Rattle.go_exprs_rules.specs.Tables.{Parts, in_parentheses, as_type_place, element_in, element_told, told_type, is_make, argument_told, call_told, composite_told, keyed_told, skips_first, sequence_told, names_told, parameter_told, hint}
use Rattle.go_exprs_rules.specs.TypeNodes.{part_type}
use Rattle.go_types_relations.specs.Tests.{underlying_of}
use Rattle.go_renumbering.specs.Renumbered.{hint_renamed, RenamedScopes}
use Rattle.go_renumbering.proofs.LaidOut.{told_same}
use Rattle.go_renumbering.proofs.Parts.{branches, parts}
use Rattle.go_renumbering.proofs.Sorts.{maybe, make_same, und}
use Rattle.go_renumbering.proofs.TypeNodes.{type_kept}

module _ (name : ℕ → ℕ) where
  abbrev told : Hint → Hint
  told h = hint_renamed name h

  inside_same : (h : Hint) → in_parentheses (told h) ≡ told (in_parentheses h)
  inside_same loose = refl
  inside_same h = refl

  place_same : (h : Hint) → as_type_place (told h) ≡ told (as_type_place h)
  place_same loose = refl
  place_same h = refl

  argument_same : (xs : Parts) → argument_told (parts name xs) ≡ told (argument_told xs)
  argument_same [] = refl
  argument_same (None ∷ xs) = refl
  argument_same (Some (typed f i j l ps) ∷ []) = ap (λ b. cond b type_place value) (make_same name l.sort) ∙ branches told (is_make l.sort) type_place value
  argument_same (Some x ∷ y ∷ ys) = refl

  call_same : (xs : Parts) → call_told (parts name xs) ≡ told (call_told xs)
  call_same [] = refl
  call_same (x ∷ xs) = argument_same (x ∷ xs)

  element_in_same : (t : TypeTree) (o : Option TypeTree) → element_in (renamed name t) (maybe name o) ≡ told (element_in t o)
  element_in_same t None = refl
  element_in_same t (Some (array n e)) = refl
  element_in_same t (Some (slice e)) = refl
  element_in_same t (Some (structure ns ts)) = refl
  element_in_same t (Some u) = refl

  keyed_same : (h : Hint) (xs : Parts) → keyed_told (told h) (parts name xs) ≡ told (keyed_told h xs)
  keyed_same h [] = refl
  keyed_same h (x ∷ xs) = refl

  sequence_same : (h : Hint) (ps : Trees) (xs : Parts) → sequence_told (told h) ps (parts name xs) ≡ told (sequence_told h ps xs)
  sequence_same h ps [] = refl
  sequence_same h ps (x ∷ xs) = ap (cond (skips_first ps) loose) (place_same h) ∙ branches told (skips_first ps) loose (as_type_place h)

  names_same : (h : Hint) (xs : Parts) → names_told (told h) (parts name xs) ≡ told (names_told h xs)
  names_same h [] = refl
  names_same h (x ∷ xs) = place_same h

  parameter_same : (h : Hint) (ps : Trees) (k : Kind) → parameter_told (told h) ps k ≡ told (parameter_told h ps k)
  parameter_same h ps k =
      ap (λ z. cond (ends_named ps) z (as_type_place (told h))) (branches told (is_name k) declares h) ∙ ap (cond (ends_named ps) (told (cond (is_name k) declares h))) (place_same h)
      ∙ branches told (ends_named ps) (cond (is_name k) declares h) (as_type_place h)

  module _ (one : IsOneToOne name) (old new : Rights) (same : AreRenamed name old new) where
    element_same : (o : Option TypeTree) → element_told new (maybe name o) ≡ told (element_told old o)
    element_same None = refl
    element_same (Some t) = ap (element_in (renamed name t)) (und name one old new same t) ∙ element_in_same t (underlying_of old t)

    composite_same : (xs : Parts) → composite_told new (parts name xs) ≡ told (composite_told old xs)
    composite_same [] = refl
    composite_same (x ∷ xs) = ap (element_told new) (type_kept name x) ∙ element_same (part_type x)

    literal_same : (h : Hint) → element_told new (told_type (told h)) ≡ told (element_told old (told_type h))
    literal_same h = ap (element_told new) (told_same name h) ∙ element_same (told_type h)

  pub hint_kept : (s t : Scope) → RenamedScopes name s t → (k : Kind) (h : Hint) (ps : Trees) (xs : Parts) (n : Kind) → hint t k (told h) ps (parts name xs) n ≡ told (hint s k h ps xs n)
  hint_kept s t c kind.Parenthesized h ps xs n = inside_same h
  hint_kept s t c kind.ParenthesizedType h ps xs n = inside_same h
  hint_kept s t c kind.Call h ps xs n = call_same xs
  hint_kept s t c kind.Composite h ps xs n = composite_same c.one_to_one s.rights t.rights c.rights xs
  hint_kept s t c kind.LiteralValue h ps xs n = literal_same c.one_to_one s.rights t.rights c.rights h
  hint_kept s t c kind.Keyed h ps xs n = keyed_same h xs
  hint_kept s t c kind.SequenceType h ps xs n = sequence_same h ps xs
  hint_kept s t c kind.StructType h ps xs n = place_same h
  hint_kept s t c kind.Signature h ps xs n = place_same h
  hint_kept s t c kind.Results h ps xs n = place_same h
  hint_kept s t c kind.Parameters h ps xs n = parameter_same h ps n
  hint_kept s t c kind.Parameter h ps xs n = names_same h xs
  hint_kept s t c kind.Fields h ps xs n = names_same h xs
  hint_kept s t c k h ps xs n = refl
