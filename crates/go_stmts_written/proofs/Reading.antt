-- The reading of a body: what is typed and what is known behind it are within the texts.
use Rattle.std.proofs.Common.{List, sym, subst, ℕ, [], ◌∷◌, ◌++◌, Option, Some, None}
use Rattle.go_grammar.specs.declared.kind.Kind.{Kind}
use Rattle.go_grammar.specs.declared.kind.Kind.TheVariants as kind
use Rattle.go_grammar.specs.declared.kind.Sort.TheVariants as declaring
use Rattle.go_grammar.specs.Trees.{Tree, node, Trees, none, more, skip, kind_of}
use Rattle.go_typed.specs.declared.form.Form.TheVariants as form
use Rattle.go_exprs_rules.specs.Scopes.{Hint, value}
use Rattle.go_exprs_rules.specs.Settling.{Part}
use Rattle.go_exprs_rules.specs.Tables.{Parts}
use Rattle.go_exprs_rules.specs.Typing.{typing}
use Rattle.go_stmts_defs.specs.Frames.{Frame, scope_of}
use Rattle.go_stmts_defs.specs.Laying.{told, layout, form_by}
use Rattle.go_stmts_defs.specs.Reading.{Found, is_list, is_declared_name, list_node, name_node, holding, holdings, held_faults, Reading, read, Readings, all_read, repeated, left_out, left_out_faults, is_statement, entering, beginning, closed, after, reading, readings}
use Rattle.go_stmts_defs.specs.Rules.{own_faults, built_by}
use Rattle.go_stmts_written.specs.Named.{NodeIsNamed, TreeIsNamed, TreesAreNamed}
use Rattle.go_stmts_written.proofs.Said.{MaybePart, PartsNamed, HintNamed, PartIsNamed, MaybeTree, IsNameWhere}
use Rattle.go_stmts_written.proofs.Values.{branch}
use Rattle.go_stmts_written.proofs.Typing.{one_more, typing_named}
use Rattle.go_stmts_written.proofs.Statements.{declared_plain, form_named, held_form_named, told_named, layout_named, made_named, built_named}
use Rattle.go_stmts_written.proofs.Frames.{FrameIsNamed, scope_named, beginning_named, entering_named, leaving_named}

module _ (texts : ℕ → List ℕ) where
  -- ---- parts without statements

  list_named : (s : Frame) (k : Kind) (i j : ℕ) (ys : Parts) → NodeIsNamed texts k i → PartsNamed texts ys → PartIsNamed texts (list_node s k i j ys)
  list_named s k i j ys n w = made_named texts (form.Held k) i j ys ys (held_form_named texts k i n) w

  name_node_named : (s : Frame) (i j : ℕ) → PartIsNamed texts (name_node s i j)
  name_node_named s i j = (tt, tt, subst (λ b. IsNameWhere b (texts i)) (sym (declared_plain s.around (s.around.objects i))) tt)

  mutual
    holding_named : (s : Frame) (h : Hint) (t : Tree) → FrameIsNamed texts s → TreeIsNamed texts t → HintNamed h → PartIsNamed texts (holding s h t)
    holding_named s h (node k i j ps) a n w =
        branch (PartIsNamed texts) (is_list k) (list_node s k i j (layout s k i (holdings s k h ps [] ps))) _
        (list_named s k i j (layout s k i (holdings s k h ps [] ps)) n.0 (layout_named texts s k i (holdings s k h ps [] ps) (holdings_named s k h ps [] ps a n.1 w tt)))
        (branch (PartIsNamed texts) (is_declared_name k) (name_node s i j) (typing (scope_of s) h (node k i j ps))
        (name_node_named s i j) (typing_named texts (scope_of s) h (node k i j ps) (scope_named texts s a) n w))

    holdings_named : (s : Frame) (k : Kind) (h : Hint) (all : Trees) (xs : Parts) (ps : Trees) → FrameIsNamed texts s → TreesAreNamed texts ps → HintNamed h → PartsNamed texts xs
        → PartsNamed texts (holdings s k h all xs ps)
    holdings_named s k h all xs none a n w v = v
    holdings_named s k h all xs (skip ps) a n w v = holdings_named s k h all (xs ++ None ∷ []) ps a n w (one_more texts xs None v tt)
    holdings_named s k h all xs (more p ps) a n w v =
        let g = told k h all xs (kind_of p) in
        holdings_named s k h all (xs ++ Some (holding s g p) ∷ []) ps a n.1 w (one_more texts xs (Some (holding s g p)) v (holding_named s g p a n.0 (told_named texts k h all xs (kind_of p) w)))

  repeated_named : (s : Frame) (o : Option Tree) → FrameIsNamed texts s → MaybeTree texts o → MaybePart texts (repeated s o)
  repeated_named s None a n = tt
  repeated_named s (Some r) a n = holding_named s value r a n tt

  left_out_named : (s : Frame) (k : Kind) → FrameIsNamed texts s → MaybePart texts (left_out s k)
  left_out_named s (kind.Specification declaring.Constant) a = repeated_named s s.source a a.source
  left_out_named s k a = tt

  -- ---- statements

  abbrev pub ReadNamed : Reading → Type 0
  ReadNamed (read x fs s) = PartIsNamed texts x × FrameIsNamed texts s

  abbrev AllReadNamed : Readings → Type 0
  AllReadNamed (all_read xs fs s) = PartsNamed texts xs × FrameIsNamed texts s

  after_named : (r : Reading) (next : Part → Found → Frame → Readings) → ReadNamed r → ((x : Part) (fs : Found) (s : Frame) → PartIsNamed texts x → FrameIsNamed texts s → AllReadNamed (next x fs s)) → AllReadNamed (after r next)
  after_named (read x fs s) next w f = f x fs s w.0 w.1

  closed_named : (before : Frame) (k : Kind) (i j : ℕ) (ps : Trees) (r : Readings) → NodeIsNamed texts k i → TreesAreNamed texts ps → FrameIsNamed texts before → AllReadNamed r → ReadNamed (closed before k i j ps r)
  closed_named before k i j ps (all_read xs fs s) m n b w =
      let f = form_by k xs in
      let ys = layout s k i xs in
      let own = own_faults s k f i j ys in
      let x = built_named texts s w.1.rights w.1.locals w.1.tag w.1.results k f i j ys own (form_named texts k i xs m) (layout_named texts s k i xs w.0) in
      (x, leaving_named texts k i ps (built_by s k f i j ys own) before s n x b w.1)

  mutual
    pub reading_named : (s : Frame) (h : Hint) (t : Tree) → FrameIsNamed texts s → TreeIsNamed texts t → HintNamed h → ReadNamed (reading s h t)
    reading_named s h (node k i j ps) a n w =
        branch ReadNamed (is_statement k) (closed s k i j ps (readings (beginning k i s) k h ps [] [] ps)) (read (holding s h (node k i j ps)) (held_faults s h (node k i j ps)) s)
        (closed_named s k i j ps (readings (beginning k i s) k h ps [] [] ps) n.0 n.1 a (readings_named (beginning k i s) k h ps [] [] ps (beginning_named texts k i s a) n.1 w tt))
        (holding_named s h (node k i j ps) a n w, a)

    readings_named : (s : Frame) (k : Kind) (h : Hint) (all : Trees) (xs : Parts) (fs : Found) (ps : Trees) → FrameIsNamed texts s → TreesAreNamed texts ps → HintNamed h → PartsNamed texts xs
        → AllReadNamed (readings s k h all xs fs ps)
    readings_named s k h all xs fs none a n w v = (v, a)
    readings_named s k h all xs fs (skip ps) a n w v =
        let e = entering k xs s in
        let b = entering_named texts k xs s v a in
        readings_named e k h all (xs ++ left_out e k ∷ []) (fs ++ left_out_faults e k) ps b n w (one_more texts xs (left_out e k) v (left_out_named e k b))
    readings_named s k h all xs fs (more p ps) a n w v =
        let e = entering k xs s in
        let g = told k h all xs (kind_of p) in
        after_named (reading e g p) (λ x gs t. readings t k h all (xs ++ Some x ∷ []) (fs ++ gs) ps)
        (reading_named e g p (entering_named texts k xs s v a) n.0 (told_named texts k h all xs (kind_of p) w))
        (λ x gs t u b. readings_named t k h all (xs ++ Some x ∷ []) (fs ++ gs) ps b n.1 w (one_more texts xs (Some x) v u))
