-- The other way round: the old tree follows the new one, at no cost.
use Rattle.std.proofs.Common.{ℕ, List, [], ◌∷◌, arith}
use Rattle.std.specs.Prelude.{Bool}
use Rattle.go_types.specs.Trees.{TypeTree}
use Rattle.go_types.specs.Relations.{Rights}
use Rattle.go_typed.specs.Trees.{Typed, Typeds}
use Rattle.go_meaning.specs.Values.{nth}
use Rattle.go_meaning.specs.Plans.{Plan}
use Rattle.go_meaning_simulation.specs.Likeness.{Likeness, Mirror}
use Rattle.go_meaning_simulation.specs.Links.{Links, Ways}
use Rattle.go_meaning_simulation.specs.Kin
use Rattle.go_meaning_simulation.specs.Kin.{Leaf, Expression, Expressions, Names, Part, Values, Statement, First, Other, Chain, Clauses, Ranged, AreKin}
use Rattle.go_meaning_simulation.proofs.Rooms.{Room}

abbrev pub flip_links : Links → Links
flip_links l = record {
  Scope = l.Scope;
  values = λ vs' vs. l.values vs vs';
  reads = λ s j i. l.reads s i j;
  writes = λ s j i. l.writes s i j;
  declares = λ s j i s1. l.declares s i j s1;
  forgets = l.forgets;
  holds = λ s v p. l.held s p v;
  held = λ s p v. l.holds s v p;
  windows = λ s s1 ws' ws. l.windows s s1 ws ws';
  cost = 0;
  factor = 1;
  returns = l.returns;
}

module _ (l : Links) (rights rights' : Rights) where
  abbrev f : Links
  f = flip_links l

  flip_leaf : {s : l.Scope} {b : Bool} {p p' : Plan} → Leaf l s b p p' → Leaf f s b p' p
  flip_leaf (Kin.gives e) = Kin.gives e
  flip_leaf (Kin.reads e) = Kin.reads e
  flip_leaf (Kin.changes e k) = Kin.changes e k
  flip_leaf (Kin.holds e) = Kin.held e
  flip_leaf (Kin.held e) = Kin.holds e
  flip_leaf Kin.variable = Kin.variable
  flip_leaf Kin.blank = Kin.blank
  flip_leaf Kin.nothing = Kin.nothing

  mutual
    pub flip_expression : {s : l.Scope} {b : Bool} {t t' : Typed TypeTree} → Expression l rights rights' s b t t' → Expression f rights' rights s b t' t
    flip_expression (Kin.leaf p p' e e' h) = Kin.leaf p' p e' e (flip_leaf h)
    flip_expression (Kin.inner p e e' is hs) = Kin.inner p e' e is (flip_expressions hs)
    flip_expression (Kin.keyed e e' e1 h) = Kin.keyed_back e' e1 e h
    flip_expression (Kin.keyed_back e e1 e' h) = Kin.keyed e' e e1 h

    pub flip_expressions : {s : l.Scope} {m : ℕ → Bool} {ts ts' : Typeds TypeTree} → Expressions l rights rights' s m ts ts' → Expressions f rights' rights s m ts' ts
    flip_expressions Kin.none = Kin.none
    flip_expressions (Kin.more h hs) = Kin.more (flip_expression h) (flip_expressions hs)
    flip_expressions (Kin.skip hs) = Kin.skip (flip_expressions hs)

  flip_names : {r s s' : l.Scope} {n : ℕ} {ts ts' : Typeds TypeTree} → Names l rights rights' r s s' n ts ts' → Names f rights' rights r s s' n ts' ts
  flip_names (Kin.values h) = Kin.values (flip_expressions h)
  flip_names (Kin.declared e e' h hs) = Kin.declared e' e h (flip_names hs)
  flip_names (Kin.other h k hs) = Kin.other (flip_expression h) (flip_expression k) (flip_names hs)

  flip_part : {s : l.Scope} {ts ts' rs rs' : Typeds TypeTree} → Part l rights rights' s ts ts' rs rs' → Part f rights' rights s ts' ts rs' rs
  flip_part (Kin.there h) = Kin.there (flip_expression h)
  flip_part Kin.absent = Kin.absent

  flip_values : {s : l.Scope} {n : ℕ} {ts ts' rs rs' : Typeds TypeTree} → Values l rights rights' s n ts ts' rs rs' → Values f rights' rights s n ts' ts rs' rs
  flip_values Kin.rest = Kin.rest
  flip_values (Kin.value h hs) = Kin.value (flip_expression h) (flip_values hs)

  mutual
    pub flip_statement : {W : Ways l.Scope} {s s' : l.Scope} {m : ℕ} {t t' : Typed TypeTree} → Statement l rights rights' W s s' m t t' → Statement f rights' rights W s s' 0 t' t
    flip_statement (Kin.does fg h) = Kin.does fg (flip_expression h)
    flip_statement (Kin.defines e e' h) = Kin.defines e' e (flip_names h)
    flip_statement (Kin.zeros e e' h) = Kin.zeros e' e (flip_names h)
    flip_statement (Kin.returns may e e' h) = Kin.returns may e' e (flip_expressions h)
    flip_statement (Kin.breaks out fg e e') = Kin.breaks out fg e' e
    flip_statement (Kin.continues out fg e e') = Kin.continues out fg e' e
    flip_statement (Kin.falls out fg e e') = Kin.falls out fg e' e
    flip_statement (Kin.sequence e e' h fg) = Kin.sequence e' e (flip_chain h) fg
    flip_statement (Kin.branch e e' hf hc hb ho) = Kin.branch e' e (flip_first hf) (flip_expression hc) (flip_statement hb) (flip_other ho)
    flip_statement (Kin.selects e e' hf hp hc fg) = Kin.selects e' e (flip_first hf) (flip_part hp) (flip_clauses hc) fg
    flip_statement (Kin.iterates e e' h le back fg) = Kin.iterates {mb = 0} e' e (flip_ranged h) (omega arith) back fg
    flip_statement (Kin.loops hf hp hq hb le fg) = Kin.loops {mb = 0} (flip_first hf) (flip_part hp) (flip_first hq) (flip_statement hb) (omega arith) fg

    flip_first : {W : Ways l.Scope} {s s' : l.Scope} {ts ts' rs rs' : Typeds TypeTree} → First l rights rights' W s s' ts ts' rs rs' → First f rights' rights W s s' ts' ts rs' rs
    flip_first (Kin.first h) = Kin.first (flip_statement h)
    flip_first Kin.no_first = Kin.no_first

    flip_other : {W : Ways l.Scope} {s s' : l.Scope} {m : ℕ} {ts ts' : Typeds TypeTree} → Other l rights rights' W s s' m ts ts' → Other f rights' rights W s s' 0 ts' ts
    flip_other (Kin.other h) = Kin.other (flip_statement h)
    flip_other (Kin.no_other fg) = Kin.no_other fg
    flip_other (Kin.nothing_behind fg) = Kin.nothing_behind fg

    pub flip_chain : {W : Ways l.Scope} {s s' : l.Scope} {m : ℕ} {ts ts' : Typeds TypeTree} → Chain l rights rights' W s s' m ts ts' → Chain f rights' rights W s s' 0 ts' ts
    flip_chain Kin.ends = Kin.ends
    flip_chain (Kin.next m1 m2 le h hs) = Kin.next 0 0 (omega arith) (flip_statement h) (flip_chain hs)
    flip_chain (Kin.left_out hs) = Kin.left_out (flip_chain hs)
    flip_chain (Kin.window m2 le h hs) = Kin.window 0 (omega arith) h (flip_chain hs)

    flip_clauses : {W : Ways l.Scope} {s s' : l.Scope} {m : ℕ} {ts ts' : Typeds TypeTree} → Clauses l rights rights' W s s' m ts ts' → Clauses f rights' rights W s s' 0 ts' ts
    flip_clauses Kin.no_clauses = Kin.no_clauses
    flip_clauses (Kin.clause m1 m2 le e e' hv h fg hs) = Kin.clause 0 0 (omega arith) e' e (flip_values hv) (flip_chain h) fg (flip_clauses hs)
    flip_clauses (Kin.default m1 m2 le e e' h fg hs) = Kin.default 0 0 (omega arith) e' e (flip_chain h) fg (flip_clauses hs)

    flip_ranged : {W : Ways l.Scope} {r s s' : l.Scope} {mb n : ℕ} {ts ts' : Typeds TypeTree} → Ranged l rights rights' W r s s' mb n ts ts' → Ranged f rights' rights W r s s' 0 n ts' ts
    flip_ranged (Kin.operand h hb) = Kin.operand (flip_expression h) (flip_statement hb)
    flip_ranged (Kin.ranged_name e e' h hs) = Kin.ranged_name e' e h (flip_ranged hs)
    flip_ranged (Kin.ranged_place h k hs) = Kin.ranged_place (flip_expression h) (flip_expression k) (flip_ranged hs)

  pub flip_all : {s : l.Scope} {ts ts' : List (Typed TypeTree)} → AreKin l rights rights' s ts ts' → AreKin f rights' rights s ts' ts
  flip_all Kin.all_done = Kin.all_done
  flip_all (Kin.and_kin h hs) = Kin.and_kin (flip_statement h) (flip_all hs)

module _ (L M : Likeness) (mirror : Mirror L M) (l : Links) (room : Room L l) where
  abbrev pub flip_room : Room M (flip_links l)
  flip_room = record {
    frames = λ s f' f. room.frames s f f';
    back = λ f' f. room.back f f';
    toll = 0;
    valuing = λ v' v e. mirror.values (v ∷ []) (v' ∷ []) (room.valuing v v' e);
    reading = λ s j i h f' f r. mirror.values (nth f i ∷ []) (nth f' j ∷ []) (room.reading s i j h f f' r);
    writing = λ s j i h v' v e f' f r. room.writing s i j h v v' (mirror.values_back (v ∷ []) (v' ∷ []) e) f f' r;
    declaring = λ s s1 j i h v' v e f' f r. room.declaring s s1 i j h v v' (mirror.values_back (v ∷ []) (v' ∷ []) e) f f' r;
    forgetting = λ s s1 h f' f r. room.forgetting s s1 h f f' r;
    holding = λ s v p h f' f r. mirror.values (nth f p ∷ []) (v ∷ []) (room.held s p v h f f' r);
    held = λ s p v h f' f r. mirror.values (v ∷ []) (nth f' p ∷ []) (room.holding s v p h f f' r);
    returning = λ s h f' f r. room.returning s h f f' r;
  }
