-- The signature of an appended function, judged by what its names mean in the package without it.
use Rattle.std.proofs.Common.{◌≡◌, ◌∙◌, ℕ, ◌≤◌, Bool, true, List, length, map, Option, refl, sym, subst, arith}
use Rattle.std.specs.Option.{option_map}
use Rattle.std.specs.List.{AllByRecursion}
use Rattle.go_tree.specs.declared.object.Object.{Object}
use Rattle.go_tree.specs.Uses.{object_of}
use Rattle.go_exprs_rules.specs.Sorts.{Stands}
use Rattle.go_package_alike.specs.Scopes.{AllTokens}
use Rattle.go_package_defs.specs.Declarations.{Specification}
use Rattle.go_package_defs.specs.Knowledge.{Outline, outlines, State, is_sound, free_scope}
use Rattle.go_package_defs.specs.Sources.{Package, text_at, rounds}
use Rattle.go_package_defs.specs.Verdicts.{known}
use Rattle.go_heads_added.specs.Added.{Gap, shifted}
use Rattle.go_package_added.specs.OneMore.{inserted, outline_beyond, MaybeReadAt, IsOneMore, IsSignature, IsSignatureBefore, spoken_scope}
use Rattle.go_package_added.proofs.Inserted.{mapped_count}
use Rattle.go_package_added.proofs.Judged.{value_state_anew}
use Rattle.go_package_added.proofs.Rounds.{long_enough}
use Rattle.go_package_added.proofs.Scopes.{MovesTyped, KeepsWords, FollowsTokens, spoken_anew}

module _ (moves : MovesTyped) (keeps : KeepsWords) (follows : FollowsTokens) (p q : Package) (ds es : List Specification) (g : Gap) (h : IsOneMore p q ds es g) where
  abbrev f : Specification
  f = h.function.specification

  inside : g.shared ≤ length (outlines p ds)
  inside = let l = h.place in let e = outlines_count in omega (arith, l, e)
    where
      outlines_count : length (outlines p ds) ≡ length p.uses.package_level
      outlines_count = mapped_count _ p.uses.package_level

  abbrev os : List Outline
  os = inserted g.shared h.function (map (outline_beyond g.shared) (outlines p ds))

  abbrev found : List State
  found = known p (outlines p ds) (rounds p)

  module _ (test : ℕ → Bool) (meant : ℕ → Option Object) (objects : (i : ℕ) → test i ≡ true → object_of q.uses f.file i ≡ option_map (shifted g) (meant i)) (read : MaybeReadAt test f.type_tree) where
    no_values : AllByRecursion (AllTokens test) f.values
    no_values = subst (AllByRecursion (AllTokens test)) (sym h.no_values) tt

    signed_here : (s : Stands) → IsSignatureBefore p (outlines p ds) f h.function.column (text_at q f.file) meant found s → IsSignature q os g.shared f h.function.column found s
    signed_here s before = record {
      state = λ y.
          value_state_anew g test (spoken_scope p (outlines p ds) found f (text_at q f.file) meant) (free_scope q os (inserted g.shared y found) f)
          (spoken_anew moves keeps follows p q ds es g h inside y found (long_enough moves keeps follows p q ds es g h inside (rounds p)) is_sound true f test (text_at q f.file) meant (λ i e. refl) objects)
          f read no_values h.function.column
          ∙ before.state;
    }

    pub signed : (s : Stands) → IsSignatureBefore p (outlines p ds) f h.function.column (text_at q f.file) meant found s → IsSignature q (outlines q es) g.shared f h.function.column found s
    signed s before = subst (λ zs. IsSignature q zs g.shared f h.function.column found s) (sym h.outlined) (signed_here s before)
