use Rattle.std.proofs.Common.{◌≡◌, map, take}
use Rattle.clone_window.specs.Spans.{bytes_of}
use Rattle.clone_replies.specs.Classes.{listed_package, window_bytes}
use Rattle.clone_replies.proofs.shown.window_spans.Given as goal

abbrev pub invariant-loop-window : goal.invariant-loop-window
invariant-loop-window l = map bytes_of l.spans.items ≡ map (window_bytes (listed_package l.checked)) (take l.window-index l.windows)
