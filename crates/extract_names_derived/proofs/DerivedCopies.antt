-- A function that begins with a copy of a run of a derived one, by the three parts of what that one tells.
use Rattle.std.proofs.Common.{◌≡◌, ◌∙◌, ℕ, ◌<◌, ◌≤◌, ◌⊎◌, inl, inr, true, false, List, ◌++◌, refl, sym, ap, subst, eq-eqb, eqb-true, arith}
use Rattle.std.specs.Prelude.{nat_eq}
use Rattle.go_tokens.specs.declared.token.TokenKind.{TokenKind}
use Rattle.go_tree.specs.declared.context.Block.{Block}
use Rattle.go_tree.specs.declared.context.Block.TheVariants as block
use Rattle.go_tree.specs.declared.event.Declaration.{Declaration}
use Rattle.go_tree.specs.declared.event.Event.TheVariants as event
use Rattle.go_heads.specs.Bodies.{function_events}
use Rattle.go_heads.specs.Functions.{Alone}
use Rattle.go_scopes_events.proofs.Public.{true_false}
use Rattle.go_scopes_bodies.specs.Meant.{Outer}
use Rattle.extract_names.specs.Copies.{Copy, is_around, DeclarationCopied, StandsInFront, StandsBehind, IsCopy}
use Rattle.extract_names.specs.Gaps.{Among}
use Rattle.extract_names_derived.specs.Copies.{SplitsAt, IsTaken}
use Rattle.extract_names_derived.specs.Functions.{IsDerivedFunction}
use Rattle.extract_names_derived.proofs.DerivedSites.{order_of, itself_of}
use Rattle.extract_names_derived.proofs.Placing.{run_placed}
use Rattle.extract_names_derived.proofs.Steps.{among_each, among_both}
use Rattle.extract_names_derived.proofs.Whole.{Tells}

pub is_copy : (tells : Tells) (ts us : List TokenKind) (a : Alone) (outer : Outer) (c : Copy) (new : Alone) → IsDerivedFunction ts a → IsDerivedFunction us new → (s : SplitsAt a c) → IsTaken a outer c new s → IsCopy a outer c new
is_copy tells ts us a outer c new f g s h =
    let p = run_placed a new c h.placed in
    record {
      pieces = h.pieces;
      before = s.before;
      behind = s.behind;
      head = h.head;
      tail = h.tail;
      told = s.told ∙ ap (λ z. s.before ++ (z ++ s.behind)) (sym h.told);
      new_told = h.new_told;
      itself = itself_of ts tells a f;
      new_itself = itself_of us tells new g;
      order = order_of ts a f;
      new_order = order_of us new g;
      rises = p.rises;
      some = s.some;
      edge = p.edge s.some;
      inner = (let i : c.around < c.from = (let at : c.around ≡ s.run_told.around = h.around in let low : s.run_told.around < c.from = s.run_told.inner in omega (arith, at, low)) in i);
      outer_end = (let e : c.upto ≤ c.end = (let at : c.end ≡ s.run_told.context.end = h.end in let hi : c.upto ≤ s.run_told.context.end = s.run_told.outer_end in omega (arith, at, hi)) in e);
      body = h.body;
      close = h.close;
      next = p.next;
      holes = p.holes;
      named = λ x m. (h.named x m, p.named x m);
      fresh = h.fresh;
      copied = h.copied;
      in_front = s.in_front;
      from_behind = s.from_behind;
      head_tells = h.head_tells;
      tail_tells = h.tail_tells;
      signature = h.signature;
      members_once = h.members_once;
      returns = h.returns;
      texts = p.texts;
      steps = λ d e x y k l lt p q. s.run_told.steps d e (in_run d x k) (in_run e y l) (around_is d.block p) (λ z. absurd (true_false (is_around c e.block) (ap (is_around c) z ∙ is_itself s.run_told.around c.around (sym h.around)) q)) lt;
      parameters = h.parameters;
      distinct = h.distinct;
      free = h.free;
      once = h.once;
      names = h.names;
      apart = h.apart;
      reuses = h.reuses;
      used = h.used;
    }
  where
    is_itself : (x y : ℕ) → x ≡ y → nat_eq x y ≡ true
    is_itself x y e = eq-eqb x y e

    around_is : (b : Block) → is_around c b ≡ true → b ≡ block.Local s.run_told.around
    around_is block.Package e = absurd (true_false false e refl)
    around_is (block.Local i) e = ap block.Local (eqb-true i c.around e ∙ h.around)

    -- a copied name is told in the run
    in_run : (d : Declaration) → DeclarationCopied c d → Among (event.Declaration d) (function_events a) → Among (event.Declaration d) s.run
    in_run d x k = by (among_both (event.Declaration d) s.before (s.run ++ s.behind) (subst (Among (event.Declaration d)) s.told k))
      where
        later : Among (event.Declaration d) s.run ⊎ Among (event.Declaration d) s.behind → Among (event.Declaration d) s.run
        later (inl m) = m
        later (inr m) =
            let low : c.upto ≤ d.name = (among_each (StandsBehind c) (event.Declaration d) s.behind s.from_behind m).0 in
            let high : d.name < c.upto = x.name.1 in
            absurd (omega (arith, low, high))

        by : Among (event.Declaration d) s.before ⊎ Among (event.Declaration d) (s.run ++ s.behind) → Among (event.Declaration d) s.run
        by (inl m) =
            let high : d.name < c.from = (among_each (StandsInFront c) (event.Declaration d) s.before s.in_front m).name in
            let low : c.from ≤ d.name = x.name.0 in
            absurd (omega (arith, low, high))
        by (inr m) = later (among_both (event.Declaration d) s.run s.behind m)
