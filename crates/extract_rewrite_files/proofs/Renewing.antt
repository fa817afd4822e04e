-- The bytes of a file behind its edits are the old ones with calls at its windows, and the function behind all.
use Rattle.std.proofs.Common.{◌≡◌, ◌∙◌, ℕ, ◌-◌, ◌≤◌, List, [], ◌∷◌, ◌++◌, append-nil, append_assoc, drop, take, length, map, Some, sym, ap, arith}
use Rattle.std.specs.Prelude.{slice_range}
use Rattle.std.specs.List.{AllByRecursion}
use Rattle.std.proofs.lemmas.List.{drop_all, length-drop, take_all}
use Rattle.go_tree.specs.Units as units
use Rattle.go_types.specs.Trees.{TypeTree}
use Rattle.go_typed.specs.declared.window.Window.{Window}
use Rattle.go_typed.specs.Contents.{Content}
use Rattle.edit_apply.specs.declared.edits.Edit.{Edit}
use Rattle.param_choose.specs.Choosing.{chosen_of}
use Rattle.param_choose.specs.Members.{Member, member_of, template_of}
use Rattle.escape_check.specs.Places.{sources_of}
use Rattle.extract_texts.specs.Texts.{call_text, window_bytes}
use Rattle.extract_files.specs.Extracted.{with_texts}
use Rattle.extract_rewrite.specs.Edits.{window_edit}
use Rattle.extract_rewrite.specs.Renewed.{renewed}
use Rattle.extract_rewrite_files.proofs.Members.{own_call}

module _ (c : Content) (name : List ℕ) (ws : List Window) (t : Member TypeTree) (there : template_of c ws ≡ Some t) where
  abbrev edit : Member TypeTree → Edit
  edit m = window_edit c name ws m

  abbrev bytes_at : Member TypeTree → units.Place
  bytes_at m = window_bytes (sources_of c) m

  abbrev call : Member TypeTree → List ℕ
  call m = call_text (λ x. x) (sources_of c) name t (chosen_of c ws) m

  -- with an edit behind all, if there is one
  pub renewed_is : (bytes new : List ℕ) (tail : List Edit) → ((at : ℕ) → at ≤ length bytes → renewed bytes at tail ≡ drop at bytes ++ new) → (ms : List (Member TypeTree)) (at : ℕ) → at ≤ length bytes
      → AllByRecursion (λ m. (member_of c m.window ≡ Some m) × ((bytes_at m).end ≤ length bytes)) ms
      → renewed bytes at (map edit ms ++ tail) ≡ with_texts bytes at (map (window_bytes (sources_of c)) ms) (map (call_text (λ x. x) (sources_of c) name t (chosen_of c ws)) ms) ++ new
  renewed_is bytes new tail law [] at le a = law at le
  renewed_is bytes new tail law (m ∷ ms) at le a =
      let rest = renewed_is bytes new tail law ms (bytes_at m).end a.0.1 a.1 in
      let others : List ℕ = with_texts bytes (bytes_at m).end (map (window_bytes (sources_of c)) ms) (map (call_text (λ x. x) (sources_of c) name t (chosen_of c ws)) ms) in
      let front : List ℕ = slice_range bytes at (bytes_at m).start in
      ap (λ l. slice_range bytes at (bytes_at m).start ++ (l ++ renewed bytes (bytes_at m).end (map edit ms ++ tail))) (own_call c name ws t m there a.0.0)
      ∙ ap (λ l. slice_range bytes at (bytes_at m).start ++ (call m ++ l)) rest
      ∙ regroup front (call m) others new
    where
      regroup : (a b c d : List ℕ) → a ++ (b ++ (c ++ d)) ≡ (a ++ (b ++ c)) ++ d
      regroup a b c d = ap (λ l. a ++ l) (sym (append_assoc b c d)) ∙ sym (append_assoc a (b ++ c) d)

-- nothing behind
pub none_behind : (bytes : List ℕ) (at : ℕ) → at ≤ length bytes → renewed bytes at [] ≡ drop at bytes ++ []
none_behind bytes at le = sym (append-nil (drop at bytes))

-- a text behind all
pub one_behind : (bytes : List ℕ) (e : Edit) → e.start ≡ length bytes → e.end ≡ length bytes → (at : ℕ) → at ≤ length bytes → renewed bytes at (e ∷ []) ≡ drop at bytes ++ e.text
one_behind bytes e s z at le =
    let front : take (e.start - at) (drop at bytes) ≡ drop at bytes = take_all (e.start - at) (drop at bytes) (omega (arith, s, length-drop at bytes)) in
    let none : drop e.end bytes ≡ [] = drop_all e.end bytes (omega (arith, z)) in
    (λ j. front j ++ (e.text ++ none j)) ∙ ap (λ l. drop at bytes ++ l) (append-nil e.text)
