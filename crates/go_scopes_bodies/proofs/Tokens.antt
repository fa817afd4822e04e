-- The tokens of functions mean what they mean by themselves.
use Rattle.std.proofs.Common.{◌≡◌, ◌∙◌, ℕ, ◌+◌, ◌-◌, ◌<◌, List, map, Option, None, refl, sym, ap, arith}
use Rattle.std.specs.Prelude.{if◌then◌else◌}
use Rattle.go_tokens.specs.Tokens.{TokenList}
use Rattle.go_grammar.specs.Trees.{Tree, first, last}
use Rattle.go_tree.specs.declared.event.Event.{Event}
use Rattle.go_tree.specs.declared.object.Object.{Object}
use Rattle.go_tree.specs.Lists.{functions}
use Rattle.go_tree.specs.Meanings.{Meaning, Numbers, first_numbers, numbered, imported_from, meanings}
use Rattle.go_tree.specs.Objects.{object_at}
use Rattle.go_tree.specs.Units.{word, is_blank}
use Rattle.go_tree.specs.Uses.{uses, object_of}
use Rattle.go_scopes_events.specs.Scopes.{locals_of, first_by, is_import, inmost}
use Rattle.go_heads.specs.Functions.{Function, Alone, AreRead, function_alone}
use Rattle.go_heads.specs.Heads.{File, IsRead}
use Rattle.go_heads.proofs.Public.{Entry, entry, read_at, outer_object, find, local_object, outer_reached, BeginsFunction, behind_entries, numbered_same, Lies, own_by}
use Rattle.go_heads.specs.Objects.{units_of, package_objects}
use Rattle.go_heads.specs.Bodies.{function_events}
use Rattle.go_heads.specs.Names.{own_text, own_declarations}
use Rattle.go_heads.proofs.Public as heads
use Rattle.go_scopes_bodies.specs.Meant.{Meant, Outer, outer_of, own_meanings, own_meant, own_declared, own_object}
use Rattle.go_scopes_bodies.proofs.Own.{up, function_behind, inmost_up, there, meant_there, declared_there, chosen, chosen_there}

-- ---- a function of a file

module _ (fs : List File) (h : AreRead fs) (n : ℕ) (f : Function) (lies : Lies fs n f) where
  abbrev t : Tree
  t = f.tree

  abbrev l : TokenList
  l = f.file.tokens

  abbrev by_itself : Alone
  by_itself = function_alone f

  pub read : IsRead f.file
  read = read_at fs h n f.file lies.there

  begins_function : BeginsFunction (own_declarations by_itself)
  begins_function = heads.begins_function fs h n f.file lies.there t lies.stands lies.named

  abbrev pub before : Numbers
  before = behind_entries first_numbers (heads.objects_before fs h n f.file lies.there t lies.stands lies.named)

  abbrev pub s : ℕ
  s = before.shared

  abbrev pub k : ℕ
  k = before.functions

  abbrev outer : Outer
  outer = outer_of (units_of fs) n

  abbrev own_front : List Meaning
  own_front = numbered before (own_declarations by_itself)

  pub meanings_up : own_front ≡ map (up s k) (own_meanings by_itself)
  meanings_up =
      let start : Numbers = record { shared = s; functions = k; local = 0 } in
      numbered_same before start (own_declarations by_itself) (record { shared = refl; functions = refl }) begins_function
      ∙ function_behind s k start first_numbers (own_declarations by_itself) begins_function (record { shared = omega arith; functions = omega arith; local = refl })

  module _ (x : ℕ) (in_it : x < last t - first t) where
    abbrev w : List ℕ
    w = own_text by_itself x

    abbrev imports : List Meaning
    imports = imported_from 0 (units_of fs)

    abbrev objects : List Entry
    objects = map (entry fs) (package_objects fs)

    abbrev there_meant : Option Object
    there_meant = if is_blank w then None else local_object (inmost 0 x w None (locals_of 0 own_front)) (outer_object w (first_by (is_import n) w imports) (find 0 w objects))

    abbrev meant : Option Meant
    meant = own_meant by_itself outer x w

    meant_same : there_meant ≡ there s k meant
    meant_same =
        ap (λ ms. if is_blank w then None else local_object (inmost 0 x w None (locals_of 0 ms)) (outer_object w (first_by (is_import n) w imports) (find 0 w objects))) meanings_up
        ∙ ap (λ o. if is_blank w then None else local_object (inmost 0 x w None (locals_of 0 (map (up s k) (own_meanings by_itself)))) o) (sym (outer_reached fs n w))
        ∙ ap (λ o. if is_blank w then None else local_object o (outer w)) (inmost_up s k x w None (own_meanings by_itself))
        ∙ meant_there s k (is_blank w) (inmost 0 x w None (locals_of 0 (own_meanings by_itself))) (outer w)

    -- what a name means at its token in the package
    pub name_same : object_at (meanings (units_of fs)) n (first t + x) (word l (first t + x)) ≡ there s k meant
    name_same = heads.meant_own fs h n f.file lies.there t lies.stands lies.named x in_it ∙ meant_same

    token_same : object_of (uses (units_of fs)) n (first t + x) ≡ chosen s k there_meant (own_by there_meant x own_front) x (function_events by_itself)
    token_same = heads.object_own fs h n f.file lies.there t lies.stands lies.named x in_it

    pub object_same : object_of (uses (units_of fs)) n (first t + x) ≡ there s k (own_object by_itself outer x)
    object_same =
        let es : List Event = function_events by_itself in
        token_same
        ∙ ap (λ o. chosen s k o (own_by o x own_front) x es) meant_same
        ∙ ap (λ ms. chosen s k (there s k meant) (own_by (there s k meant) x ms) x es) meanings_up
        ∙ ap (λ o. chosen s k (there s k meant) o x es) (declared_there s k meant x (own_meanings by_itself))
        ∙ chosen_there s k meant (own_declared meant x (own_meanings by_itself)) x es
