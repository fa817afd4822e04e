-- One command: what it gives, and what serving it does.
use Rattle.std.proofs.Common.{◌≡◌, ℕ, true, false, List, length, Option, Some, Err, inl, inr, refl, sym, subst}
use Rattle.go_base.specs.declared.bytes.FileText.{FileText}
use Rattle.port_io.specs.declared.folder.FolderError.{FolderError}
use Rattle.port_io.specs.declared.folder.FolderError.TheVariants as folder
use Rattle.port_io.specs.declared.sink.SinkError.{SinkError}
use Rattle.port_io.specs.declared.sink.SinkError.TheVariants as sink
use Rattle.port_io.specs.Held.{Held}
use Rattle.clone_script.specs.declared.command.Command.{Command}
use Rattle.clone_script.specs.Replies.{save_reply}
use Rattle.clone_server.specs.declared.stop.Stop.{Stop}
use Rattle.clone_server.specs.declared.stop.Stop.TheVariants as stop
use Rattle.clone_server.specs.Session.{Answering, State, is_save, with_files, StepBy, Step}
use Rattle.clone_server.specs.Serving.{save_stop, sink_stop, WritesAll, Saves, Partly, Gives, Serves}

pub gives_save_stop : (A : Answering) (dir : List ℕ) (s : State) (c : Command) (e : FolderError) (files : List FileText) (after : Option Held) → is_save c ≡ true →
    Saves (Err e) s.held dir s.files after → Gives A dir s c (Err (save_stop e)) files after
gives_save_stop A dir s c folder.Failed files after is h = (is, h)
gives_save_stop A dir s c folder.Memory files after is h = subst (λ b. Partly b dir s after) (sym is) (inl h)

pub step_save : (A : Answering) (dir : List ℕ) (s : State) (c : Command) (reply : List ℕ) → is_save c ≡ true → reply ≡ save_reply (length s.files) →
    Step A dir s c reply (record { files = s.files; held = with_files s.held dir s.files })
step_save A dir s c reply is e = subst (λ b. StepBy b A dir s c reply (record { files = s.files; held = with_files s.held dir s.files })) (sym is) (refl, refl, e)

pub step_other : (A : Answering) (dir : List ℕ) (s : State) (c : Command) (reply : List ℕ) (files : List FileText) → is_save c ≡ false → A s.files c reply files →
    Step A dir s c reply (record { files = files; held = s.held })
step_other A dir s c reply files is h = subst (λ b. StepBy b A dir s c reply (record { files = files; held = s.held })) (sym is) (h, refl)

pub serves_stop : (A : Answering) (dir : List ℕ) (s : State) (c : Command) (before : List ℕ) (e : Stop) (files : List FileText) (after : Option Held) (written : Option (List ℕ)) →
    Gives A dir s c (Err e) files after → written ≡ Some before → Serves A dir s c before (Err e) files after written
serves_stop A dir s c before stop.Folder files after written g w = absurd g
serves_stop A dir s c before stop.Script files after written g w = absurd g
serves_stop A dir s c before stop.Sink files after written g w = absurd g
serves_stop A dir s c before stop.Save files after written g w = (g.0, g.1, w)
serves_stop A dir s c before stop.Memory files after written g w = inl (g, w)

pub serves_cut : (A : Answering) (dir : List ℕ) (s : State) (c : Command) (before reply : List ℕ) (e : SinkError) (files : List FileText) (held : Held) (after : Option Held) (written : Option (List ℕ)) →
    after ≡ Some held → Step A dir s c reply (record { files = files; held = held }) → WritesAll (Err e) before reply written → Serves A dir s c before (Err (sink_stop e)) files after written
serves_cut A dir s c before reply sink.Failed files held after written e step w =
    record { reply = reply; next = record { files = files; held = held }; step = step; held = e; left = w.0; some = w.1; leaves = w.2 }
serves_cut A dir s c before reply sink.Memory files held after written e step w =
    inr (record { reply = reply; next = record { files = files; held = held }; step = step; held = e; left = w.0; some = w.1; leaves = w.2 })
