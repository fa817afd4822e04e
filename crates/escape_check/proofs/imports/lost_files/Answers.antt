use Rattle.std.proofs.Common.{◌≡◌, ◌∙◌, ◌≤◌, ℕ, Bool, true, false, Some, length, nat_eq, refl, sym, ap, arith}
use Rattle.std.specs.Prelude.{◌&&◌, ◌||◌, not, slice_get}
use Rattle.std.specs.HashSet as set
use Rattle.std.specs.List.{list_any}
use Rattle.std.specs.Option.{option_map}
use Rattle.std.proofs.lemmas.Option.{slice_get-map, slice_get_past, slice_get_read}
use Rattle.go_scopes_lookup.specs.Tables.{same_spot}
use Rattle.go_scopes_lookup.specs.Views.{unit_view, units_view}
use Rattle.go_tree.specs.Lookups.{Asked}
use Rattle.escape_check.specs.Lookups.{imports, is_import_in}
use Rattle.escape_check.specs.Shown.{covers_token}
use Rattle.escape_check.proofs.Importing.{kept_told, lost_all, lost_more, lost_same}
use Rattle.escape_check.proofs.Steps.{cond-or}
use Rattle.escape_check.proofs.imports.lost_files.Goals as goal
use Rattle.escape_check.proofs.imports.lost_files.Goals.{then-not-contains+in_ok-imports_fmt+then-branch+in_ok-insert, else-not-contains}
use Rattle.escape_check.proofs.imports.lost_files.Goals.{else-not-contains-via-then-not-contains+in_ok-imports_fmt+else-branch, else-not-contains-via-else-not-contains}

none : (a b : Bool) → b ≡ false → (a && b) ≡ false
none true b h = h
none false b h = refl

pub loop-file-preserved : goal.loop-file-preserved
loop-file-preserved c =
    let us = c.args.units.now in
    let i = c.loop-file.file in
    let u = c.index-units-file.result in
    let kept : ℕ → Bool = set.contains nat_eq c.in_ok-kept.kept in
    let old : ℕ → Bool = set.contains nat_eq c.loop-file.lost in
    let fails : ℕ → Bool = λ n. imports (slice_get (units_view us) n) && not (kept n) in
    let there : slice_get (units_view us) i ≡ Some (unit_view u) =
    slice_get-map unit_view us i ∙ ap (option_map unit_view) (slice_get_read us (length us) i u refl c.loop-file-test.true c.index-units-file.is)
    in
    let same : c.in-Ok.file ≡ i = c.in-Ok.ensures.1 in
    let has : c.contains.result ≡ kept i = c.contains.ensures ∙ ap kept same in
    elim c.if-not-contains.branch [
      | then-not-contains+in_ok-imports_fmt+then-branch+in_ok-insert w ↦ λ n.
          ap (λ s. set.contains nat_eq s n) w.lost-is
          ∙ lost_more fails old (set.contains nat_eq w.insert.new.self) i c.loop-file.invariant (
          ap (λ o. imports o && not (kept i)) there
          ∙ ap (λ b. b && not (kept i)) (sym w.in_ok-imports_fmt.ensures ∙ w.if-branch.true)
          ∙ ap not (sym has ∙ w.if-not-contains.true)
          ) (λ k. w.in_ok-insert.ensures.updates.0 k ∙ cond-or (nat_eq c.in-Ok.file k) (old k) ∙ ap (λ j. nat_eq j k || old k) same) n
      | else-not-contains w ↦ λ n.
          ap (λ s. set.contains nat_eq s n) w.lost-is
          ∙ elim w.else-not-contains.branch [
            | else-not-contains-via-then-not-contains+in_ok-imports_fmt+else-branch v ↦
                lost_same fails old i c.loop-file.invariant (ap (λ o. imports o && not (kept i)) there ∙ ap (λ b. b && not (kept i)) (sym v.in_ok-imports_fmt.ensures ∙ v.if-branch.false)) n
            | else-not-contains-via-else-not-contains v ↦
                lost_same fails old i c.loop-file.invariant (none (imports (slice_get (units_view us) i)) (not (kept i)) (ap not (sym has ∙ v.if-not-contains.false))) n
          ]
    ]

pub returns : goal.returns
returns c = λ n.
    let p = c.args.checked.now in
    let t = c.args.template.now in
    let us = c.args.units.now in
    let kept : ℕ → Bool = set.contains nat_eq c.in_ok-kept.kept in
    let replaced : ℕ → ℕ → Bool = λ file token. set.contains same_spot c.in_ok-replaced.replaced (file, token) in
    let stays : Asked → Bool = λ (a : Asked). is_import_in n a && (covers_token a.file a.it.name t || not (replaced a.file a.it.name)) in
    let fails : ℕ → Bool = λ k. imports (slice_get (units_view us) k) && not (kept k) in
    let beyond : (k : ℕ) → c.loop-file.file ≤ k → fails k ≡ false = λ k l. (
    ap (λ o. imports o && not (kept k)) (slice_get-map unit_view us k ∙ ap (option_map unit_view) (slice_get_past us k (omega (arith, l, c.loop-file-test.false))))
    ) in
    lost_all fails (set.contains nat_eq c.loop-file.lost) c.loop-file.file c.loop-file.invariant beyond n
    ∙ ap (λ b. imports (slice_get (units_view us) n) && not b) (
    c.in_ok-kept.ensures n
    ∙ ap (list_any stays) c.requires.asked
    ∙ kept_told p t c.args.members.now replaced n c.requires.template c.requires.sound (λ file token. c.in_ok-replaced.ensures file token)
    )
