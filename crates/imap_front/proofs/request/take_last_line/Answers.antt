use Rattle.std.proofs.Common.{◌≡◌, ◌<◌, ◌+◌, ◌-◌, ◌++◌, [], is_some, length, refl, sym, ap, ◌∙◌, subst, arith, Ok, Err, length-append, append-nil}
use Rattle.wire_io.specs.Feeding.{gained}
use Rattle.wire_io.specs.Feeds.{limit_of, taken_of}
use Rattle.imap_grammar.specs.declared.command.CommandFault.TheVariants.{TooLong}
use Rattle.imap_grammar.specs.Progressing.{max_text, progress_in}
use Rattle.imap_grammar.specs.Reaching.{IsEnded}
use Rattle.imap_front.specs.declared.request.Taken.TheVariants.{Command, Fault}
use Rattle.front_core.proofs.Coming.{moves_in, takes_whole, takes_abandoned, takes_ended, end_cause, end_not_written}
use Rattle.imap_front.specs.Imap.{imap}
use Rattle.imap_front.specs.Filled.{imap_filled}
use Rattle.imap_front.specs.Taking.{request_taken}
use Rattle.imap_front.proofs.Coming.{came}
use Rattle.imap_front.proofs.Lining.{last_part_of, last_part_less, last_part_long, last_of, last_is, ended_whole, last_command, last_fault}
use Rattle.imap_front.proofs.request.take_last_line.Goals as goal

pub returns-in-Whole-clause-takes : goal.returns-in-Whole-clause-takes
returns-in-Whole-clause-takes g c =
    let l = is_some c.args.login in
    let head = c.args.text.now.items in
    let message = c.args.message.items in
    let now = c.line.new.out.items in
    let piece = gained head now in
    let come = (head ++ message) ++ piece in
    let room = 16384 - c.len-room.result in
    let fits : length head + room ≡ max_text = omega (arith, c.len-room.ensures, c.requires.fits.0) in
    let w = c.in-Ok-Whole.ensures in
    let whole = w.whole.0 (ap Ok c.in-Ok-Whole.field-0-is) in
    let read = c.in-Ok-Ok in
    let own = c.in-Whole in
    let is : progress_in l now ≡ Ok read.progress = ap (progress_in l) (sym c.deref.ensures.value) ∙ sym read.ensures.is ∙ read.field-0-is in
    λ hosts sent said r left start waiting taken m.
    let moved = moves_in _ _ _ _ _ _ _ _ _ _ _ _ _ _ (head ++ message) said piece come m w.hands w.counts refl in
    takes_whole (imap hosts) (imap_filled hosts) c.args.login (limit_of c.args.feed.now) (request_taken c.line.new.out.items) _ _ _ _ _ _ _ _ _ _ come said moved (Command own.tag own.command c.args.message)
    (came hosts c.args.login _ _ (last_of l head said message piece now come room c.requires.marker r w.grows refl fits whole w.most))
    (last_command l head said message piece now come room c.requires.marker r w.grows refl fits whole w.most own.command own.tag (is ∙ ap Ok own.is))

pub returns-in-Ok-Err-clause-takes : goal.returns-in-Ok-Err-clause-takes
returns-in-Ok-Err-clause-takes g c =
    let l = is_some c.args.login in
    let head = c.args.text.now.items in
    let message = c.args.message.items in
    let now = c.line.new.out.items in
    let piece = gained head now in
    let come = (head ++ message) ++ piece in
    let room = 16384 - c.len-room.result in
    let fits : length head + room ≡ max_text = omega (arith, c.len-room.ensures, c.requires.fits.0) in
    let w = c.in-Ok-Whole.ensures in
    let whole = w.whole.0 (ap Ok c.in-Ok-Whole.field-0-is) in
    let read = c.in-Ok-Err in
    let is : progress_in l now ≡ Err read.fault = ap (progress_in l) (sym c.deref.ensures.value) ∙ sym read.ensures.is ∙ read.field-0-is in
    λ hosts sent said r left start waiting taken m.
    let moved = moves_in _ _ _ _ _ _ _ _ _ _ _ _ _ _ (head ++ message) said piece come m w.hands w.counts refl in
    takes_whole (imap hosts) (imap_filled hosts) c.args.login (limit_of c.args.feed.now) (request_taken c.line.new.out.items) _ _ _ _ _ _ _ _ _ _ come said moved (Fault read.fault)
    (came hosts c.args.login _ _ (last_of l head said message piece now come room c.requires.marker r w.grows refl fits whole w.most))
    (last_fault l head said message piece now come room c.requires.marker r w.grows refl fits whole w.most read.fault is)

pub returns-in-Err-progress_of-clause-takes : goal.returns-in-Err-progress_of-clause-takes
returns-in-Err-progress_of-clause-takes g c =
    let l = is_some c.args.login in
    let head = c.args.text.now.items in
    let message = c.args.message.items in
    let now = c.line.new.out.items in
    let piece = gained head now in
    let come = (head ++ message) ++ piece in
    let room = 16384 - c.len-room.result in
    let fits : length head + room ≡ max_text = omega (arith, c.len-room.ensures, c.requires.fits.0) in
    let w = c.in-Ok-Whole.ensures in
    let whole = w.whole.0 (ap Ok c.in-Ok-Whole.field-0-is) in
    λ hosts sent said r left start waiting taken m.
    let moved = moves_in _ _ _ _ _ _ _ _ _ _ _ _ _ _ (head ++ message) said piece come m w.hands w.counts refl in
    takes_abandoned (imap hosts) (imap_filled hosts) c.args.login (limit_of c.args.feed.now) (request_taken c.line.new.out.items) _ _ _ _ _ _ _ _ _ _ come said moved come [] (sym (append-nil come))
    (came hosts c.args.login _ _ (last_of l head said message piece now come room c.requires.marker r w.grows refl fits whole w.most))

pub returns-in-Ok-TooLong-clause-takes : goal.returns-in-Ok-TooLong-clause-takes
returns-in-Ok-TooLong-clause-takes g c =
    let l = is_some c.args.login in
    let head = c.args.text.now.items in
    let message = c.args.message.items in
    let now = c.line.new.out.items in
    let piece = gained head now in
    let come = (head ++ message) ++ piece in
    let room = 16384 - c.len-room.result in
    let fits : length head + room ≡ max_text = omega (arith, c.len-room.ensures, c.requires.fits.0) in
    let w = c.in-Ok-TooLong.ensures in
    let long = w.too_long.0 (ap Ok c.in-Ok-TooLong.field-0-is) in
    λ hosts sent said r left start waiting taken m.
    let moved = moves_in _ _ _ _ _ _ _ _ _ _ _ _ _ _ (head ++ message) said piece come m w.hands w.counts refl in
    takes_whole (imap hosts) (imap_filled hosts) c.args.login (limit_of c.args.feed.now) (request_taken c.line.new.out.items) _ _ _ _ _ _ _ _ _ _ come said moved (Fault TooLong)
    (came hosts c.args.login _ _ (last_part_of l head said message piece now come room c.requires.marker r w.grows refl fits long.0 w.most))
    (last_part_long l head said message piece now come room c.requires.marker r w.grows refl fits long)

pub returns-in-Err-clause-takes : goal.returns-in-Err-clause-takes
returns-in-Err-clause-takes g c =
    let l = is_some c.args.login in
    let head = c.args.text.now.items in
    let message = c.args.message.items in
    let now = c.line.new.out.items in
    let piece = gained head now in
    let come = (head ++ message) ++ piece in
    let room = 16384 - c.len-room.result in
    let fits : length head + room ≡ max_text = omega (arith, c.len-room.ensures, c.requires.fits.0) in
    let f = c.in-Err.ensures in
    let joined : length come ≡ (length head + length message) + length piece = length-append (head ++ message) piece ∙ ap (λ n. n + length piece) (length-append head message) in
    let grown : length now ≡ length head + length piece = ap length f.grows ∙ length-append head piece in
    let sized : length come ≡ c.len.result + c.len-in-Err.result = omega (arith, joined, grown, c.len.ensures, c.line.new.out.ok, c.len-in-Err.ensures, c.args.message.ok) in
    λ hosts sent said r left start waiting taken m.
    let moved = moves_in _ _ _ _ _ _ _ _ _ _ _ _ _ _ (head ++ message) said piece come m f.hands f.counts refl in
    takes_ended (imap hosts) (imap_filled hosts) c.args.login (limit_of c.args.feed.now) (request_taken c.line.new.out.items) _ _ _ _ _ _ _ _ _ _ come said moved (λ begun. came hosts c.args.login _ _ (last_part_of l head said message piece now come room c.requires.marker r f.grows refl fits begun.0 f.most))
    (last_part_less l head said message piece now come room c.requires.marker r f.grows refl fits) c.in-Err.end _ c.end_of.result c.end_of.ensures sized refl
    (λ e. let h = f.below_limit.0 e in (h.0, h.1, subst (λ n. taken_of c.line.new.self < n) f.same_limit h.2))
    (λ e. let h = f.at_limit.0 e in (h.0, h.1, h.2 ∙ f.same_limit))
    f.ended f.no_memory.0

pub returns-in-Err-clause-read_cause : goal.returns-in-Err-clause-read_cause
returns-in-Err-clause-read_cause g c =
    end_cause c.in-Err.end _ _ c.end_of.result c.end_of.ensures _ _ c.in-Err.ensures.cause

pub returns-in-Err-clause-not_written : goal.returns-in-Err-clause-not_written
returns-in-Err-clause-not_written g c =
    end_not_written c.in-Err.end _ _ c.end_of.result c.end_of.ensures

pub unreachable-requires : goal.unreachable-requires
unreachable-requires g c =
    let l = is_some c.args.login in
    let head = c.args.text.now.items in
    let now = c.line.new.out.items in
    let room = 16384 - c.len-room.result in
    let fits : length head + room ≡ max_text = omega (arith, c.len-room.ensures, c.requires.fits.0) in
    let w = c.in-Ok-Whole.ensures in
    let whole = w.whole.0 (ap Ok c.in-Ok-Whole.field-0-is) in
    let read = c.in-Ok-Ok in
    let is : progress_in l now ≡ Ok read.progress = ap (progress_in l) (sym c.deref.ensures.value) ∙ sym read.ensures.is ∙ read.field-0-is in
    ended_whole read.progress (subst IsEnded is (last_is l head c.args.message.items (gained head now) now room c.requires.marker w.grows fits whole w.most)) c.in_default.not-Whole
