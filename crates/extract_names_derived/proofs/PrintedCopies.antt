-- A printed function that begins with a copy of a run is one.
use Rattle.std.proofs.Common.{false, List}
use Rattle.go_tokens.specs.declared.token.TokenKind.{TokenKind}
use Rattle.go_rewriting.specs.Places.{become_all}
use Rattle.go_heads.specs.Functions.{Alone}
use Rattle.go_scopes_bodies.specs.Listed.{told_list}
use Rattle.go_scopes_bodies.specs.Meant.{Outer}
use Rattle.extract_names.specs.Copies.{Copy, IsCopy}
use Rattle.extract_names_derived.specs.Copied.{CopyStands, copy_pieces}
use Rattle.extract_names_derived.specs.Copies.{SplitsAt, IsTaken}
use Rattle.extract_names_derived.specs.Functions.{IsDerivedFunction}
use Rattle.extract_names_derived.specs.PrintedCopies.{copied_run, IsPrintedCopy}
use Rattle.extract_names_derived.proofs.CopyTelling.{copy_told}
use Rattle.extract_names_derived.proofs.DerivedCopies.{is_copy}
use Rattle.extract_names_derived.proofs.ParameterEvents.{parameter_stands}
use Rattle.extract_names_derived.proofs.ParametersOnce.{head_free}
use Rattle.extract_names_derived.proofs.Placing.{run_placed}
use Rattle.extract_names_derived.proofs.SignatureEvents.{signature_tells, return_tells}
use Rattle.extract_names_derived.proofs.Whole.{Tells}

taken : (a : Alone) (outer : Outer) (c : Copy) (new : Alone) (s : SplitsAt a c) (x : CopyStands a new c s) → IsPrintedCopy a outer c new s x → IsTaken a outer c new s
taken a outer c new s x h =
    let t = copy_told a new c s x in
    let head = signature_tells new outer c c.close (become_all c.place s.run_told.statements x.holes) x.others x.split h.header h.signature in
    let tail = return_tells a new c (copied_run a new c s x) c.close (become_all c.place s.run_told.statements x.holes) x.others x.split h.first h.returned h.returns in
    record {
      around = x.around;
      end = h.end;
      pieces = copy_pieces a new c s x;
      told = t.told;
      head = x.split.head;
      tail = told_list x.split.context false x.others;
      new_told = t.new_told;
      placed = h.placed;
      body = h.signature.inner;
      close = h.close;
      named = h.named;
      fresh = h.fresh;
      copied = t.holes_copied h.end (run_placed a new c h.placed) h.holes h.look;
      head_tells = head.head;
      tail_tells = tail.tail;
      signature = head.signature;
      members_once = head_free new c.body c.close (become_all c.place s.run_told.statements x.holes) x.others x.split h.header h.signature.tree h.members;
      returns = tail.returns;
      parameters = λ u m. parameter_stands new c.body c.close (become_all c.place s.run_told.statements x.holes) x.others x.split h.header u h.signature.tree (h.listed u m) (h.some u m);
      distinct = h.distinct;
      free = h.free;
      once = h.once;
      names = h.names;
      apart = h.apart;
      reuses = h.reuses;
      used = h.used;
    }

pub printed_copy : (tells : Tells) (ts us : List TokenKind) (a : Alone) (outer : Outer) (c : Copy) (new : Alone) → IsDerivedFunction ts a → IsDerivedFunction us new → (s : SplitsAt a c) (x : CopyStands a new c s) → IsPrintedCopy a outer c new s x → IsCopy a outer c new
printed_copy tells ts us a outer c new f g s x h = is_copy tells ts us a outer c new f g s (taken a outer c new s x h)
