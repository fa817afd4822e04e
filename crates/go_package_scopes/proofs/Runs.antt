-- A run of statements of a function is lexically scoped, where its names are its own.
use Rattle.std.proofs.Common.{◌≡◌, ℕ, ◌+◌, ◌≤◌, inl, inr, Bool, List, [], ◌∷◌, Some, sym, subst, arith}
use Rattle.go_tree.specs.declared.context.Scope.{Scope}
use Rattle.go_tree.specs.declared.object.Object.TheVariants as object
use Rattle.go_tree.specs.Uses.{UsesView, object_of}
use Rattle.go_types.specs.Relations.{Rights}
use Rattle.go_types.specs.Trees.{TypeTree}
use Rattle.go_typed.specs.declared.form.Form.{Form}
use Rattle.go_typed.specs.declared.form.Form.TheVariants as form
use Rattle.go_typed.specs.Contents.{FuncContent}
use Rattle.go_typed.specs.Trees.{Typed, typed, Typeds, none, more, skip, first_of, last_of}
use Rattle.go_meaning_simulation.specs.Links.{nowhere}
use Rattle.extract_runs.specs.Lexical.{Locals, lexical_links}
use Rattle.extract_runs.specs.Sound.{SoundChain}
use Rattle.go_stmts_scopes.specs.Locals.{behind_all}
use Rattle.go_stmts_scopes.specs.Runs.{Unless}
use Rattle.go_stmts_scopes.specs.Scoped.{tested}
use Rattle.go_stmts_scopes.specs.Shapes.{AreStatements}
use Rattle.go_stmts_scopes.specs.Standing.{Extents, Exits, no_exits, exits_in, room_in, is_closed, Stands, AllStand, StandInScope}
use Rattle.go_package_scopes.specs.Functions.{EachName, EachNames, IsInScope}
use Rattle.go_package_scopes.specs.Laid.{is_shut, Laid, AllLaid, Begins, HaveRooms}
use Rattle.go_package_scopes.specs.Own.{extents_of}
use Rattle.go_package_scopes.specs.Runs.{IsPrefix, IsRun, EachRow, AllRows, ExitsStand, AllExitsStand, RunsAreLexical, HaveLexicalRuns}
use Rattle.go_package_scopes.specs.Standing.{NamesStand, AllNamesStand}
use Rattle.go_package_scopes.proofs.Joined.{all_stand}
use Rattle.go_package_scopes.proofs.Laid.{unless_both, wider, exact, begins, grows, ends}

-- ---- a run of parts that lie in order

module _ (D : Scope → ℕ → Type 0) where
  all_order : (r : Scope) (a z : ℕ) (ps : Typeds TypeTree) → AllLaid D r a z ps → a ≤ z
  all_order r a z none h = h
  all_order r a z (more p ps) h = omega (arith, begins D r a z p h.0, grows D r a z p h.0, ends D r a z p h.0)
  all_order r a z (skip ps) h = all_order r a z ps h

  prefix_laid : (r : Scope) (a z e : ℕ) (ws ps : Typeds TypeTree) → IsPrefix a z ws ps → AllLaid D r a e ps → AllLaid D r a z ws
  prefix_laid r a z e none ps w h = omega (arith, w)
  prefix_laid r a z e (skip ws) ps w h = absurd w
  prefix_laid r a z e (more x ws) none w h = absurd w
  prefix_laid r a z e (more x ws) (skip ps) w h = prefix_laid r a z e (more x ws) ps w h
  prefix_laid r a z e (more x ws) (more p ps) w h =
      let rest : AllLaid D r (last_of x) z ws = prefix_laid r (last_of x) z e ws ps w.1 (subst (λ y. AllLaid D r (last_of y) e ps) (sym w.0) h.1) in
      let here : Laid D r a e x = subst (λ y. Laid D r a e y) (sym w.0) h.0 in
      (wider D r a (last_of x) a z x (omega arith) (all_order r (last_of x) z ws rest) (exact D r a e x here), rest)

  run_laid : (r : Scope) (a z i e : ℕ) (ws ps : Typeds TypeTree) → IsRun a z ws i ps → AllLaid D r i e ps → AllLaid D r a z ws
  run_laid r a z i e ws none w h = prefix_laid r a z e ws none w.1 (subst (λ m. m ≤ e) (sym w.0) h)
  run_laid r a z i e ws (skip ps) w h = run_laid r a z i e ws ps w h
  run_laid r a z i e ws (more p ps) (inl w) h = prefix_laid r a z e ws (more p ps) w.1 (subst (λ m. AllLaid D r m e (more p ps)) (sym w.0) h)
  run_laid r a z i e ws (more p ps) (inr w) h = run_laid r a z (last_of p) e ws ps w h.1

module _ (Q : ℕ → ℕ → Type 0) where
  prefix_names : (a z : ℕ) (ws ps : Typeds TypeTree) → IsPrefix a z ws ps → EachNames Q ps → EachNames Q ws
  prefix_names a z none ps w h = tt
  prefix_names a z (skip ws) ps w h = absurd w
  prefix_names a z (more x ws) none w h = absurd w
  prefix_names a z (more x ws) (skip ps) w h = prefix_names a z (more x ws) ps w h
  prefix_names a z (more x ws) (more p ps) w h = (subst (EachName Q) (sym w.0) h.0, prefix_names (last_of x) z ws ps w.1 h.1)

  run_names : (a z i : ℕ) (ws ps : Typeds TypeTree) → IsRun a z ws i ps → EachNames Q ps → EachNames Q ws
  run_names a z i ws none w h = prefix_names a z ws none w.1 h
  run_names a z i ws (skip ps) w h = run_names a z i ws ps w h
  run_names a z i ws (more p ps) (inl w) h = prefix_names a z ws (more p ps) w.1 h
  run_names a z i ws (more p ps) (inr w) h = run_names a z (last_of p) ws ps w h.1

-- ---- names and ways out

module _ (ls : Locals) (rights : Rights) (x : Extents) where
  mutual
    both_stand : (r : Scope) (e : Exits) (a b : ℕ) (t : Typed TypeTree) → NamesStand ls rights x r a b t → ExitsStand ls e t → Stands ls rights x r e a b t
    both_stand r e a b (typed f i j l ps) n h = (
      n.0,
      n.1,
      n.2,
      n.3,
      h.0,
      n.4,
      unless_both (is_closed f) (AllNamesStand ls rights x (room_in r f i j ps) i j ps) (AllStand ls rights x (room_in r f i j ps) (exits_in e f) i j ps) (λ m. all_both_stand (room_in r f i j ps) (exits_in e f) i j ps m h.1) n.5,
    )

    all_both_stand : (r : Scope) (e : Exits) (a b : ℕ) (ps : Typeds TypeTree) → AllNamesStand ls rights x r a b ps → AllExitsStand ls e ps → AllStand ls rights x r e a b ps
    all_both_stand r e a b none n h = n
    all_both_stand r e a b (more p ps) n h = (both_stand r e a b p n.0 h.0, all_both_stand r e (last_of p) b ps n.1 h.1)
    all_both_stand r e a b (skip ps) n h = all_both_stand r e a b ps n h

-- ---- functions

-- windows that are covered are lexically scoped
abbrev pub RunsAreCovered : Type 0
RunsAreCovered = (named written declared : ℕ → Bool) (returns : Bool) (rights : Rights) (x : Extents) (gone : ℕ → Bool) (local : ℕ → ℕ) (s : List ℕ) (r : Scope) (a b : ℕ) (ps : Typeds TypeTree)
    → AreStatements ps → StandInScope (tested named written declared returns) rights x r a b s ps
    → SoundChain (lexical_links (tested named written declared returns)) rights local gone nowhere s (behind_all s ps) ps

module _ (c : RunsAreCovered) (u : UsesView) (n b f : ℕ) where
  -- a closed node is shut, but for what only holds parts
  closed_shut : (h : Form) (A C : Type 0) → (A → C) → Unless (is_shut h) A → Unless (is_closed h) C
  closed_shut (form.Held k) A C g a = tt
  closed_shut h A C g a = unless_both (is_closed h) A C g a

  abbrev Means : ℕ → ℕ → Type 0
  Means i k = object_of u n (b + i) ≡ Some (object.Local f k)

  abbrev Scoped : ℕ → ℕ → Type 0
  Scoped i k = IsInScope u n (b + i) k

  runs_lexical : (r : Scope) (i e : ℕ) (ps : Typeds TypeTree) → AllLaid (Begins u n b) r i e ps → EachNames Scoped ps → EachNames Means ps → RunsAreLexical u b f r i ps
  runs_lexical r i e ps d s o ws a z w q named written declared returns rights local gone t h =
      let ls : Locals = tested named written declared returns in
      let stand : AllNamesStand ls rights (extents_of u f b) r a z ws = all_stand ls rights u n b f r a z ws (run_laid (Begins u n b) r a z i e ws ps w d) (run_names Scoped a z i ws ps w s) (run_names Means a z i ws ps w o) h.names in
      c named written declared returns rights (extents_of u f b) gone local t r a z ws q (record { names = all_both_stand ls rights (extents_of u f b) r no_exits a z ws stand h.exits; declared = h.declared })

  mutual
    rows : (r : Scope) (a z : ℕ) (t : Typed TypeTree) → Laid (Begins u n b) r a z t → EachName Scoped t → EachName Means t → EachRow (RunsAreLexical u b f) r t
    rows r a z (typed h i j l ps) d s o =
        closed_shut h (AllLaid (Begins u n b) (room_in r h i j ps) i j ps) (RunsAreLexical u b f (room_in r h i j ps) i ps × AllRows (RunsAreLexical u b f) (room_in r h i j ps) ps)
        (λ g. (runs_lexical (room_in r h i j ps) i j ps g s.1 o.1, all_rows (room_in r h i j ps) i j ps g s.1 o.1)) d.4

    all_rows : (r : Scope) (a z : ℕ) (ps : Typeds TypeTree) → AllLaid (Begins u n b) r a z ps → EachNames Scoped ps → EachNames Means ps → AllRows (RunsAreLexical u b f) r ps
    all_rows r a z none d s o = tt
    all_rows r a z (more p ps) d s o = (rows r a z p d.0 s.0 o.0, all_rows r (last_of p) z ps d.1 s.1 o.1)
    all_rows r a z (skip ps) d s o = all_rows r a z ps d s o

pub all_runs : RunsAreCovered → (u : UsesView) (fs : List FuncContent) → HaveRooms u fs → HaveLexicalRuns u fs
all_runs c u [] h = tt
all_runs c u (f ∷ fs) h = (
  record {
    file = h.0.file;
    first = h.0.first;
    function = h.0.function;
    own = h.0.own;
    runs = rows c u h.0.file h.0.first h.0.function (record { from = first_of f.tree; to = last_of f.tree }) (first_of f.tree) (last_of f.tree) f.tree h.0.laid h.0.names h.0.own;
  },
  all_runs c u fs h.1,
)
