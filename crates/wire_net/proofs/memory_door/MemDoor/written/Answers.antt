use Rattle.std.proofs.Common.{◌<◌, length, refl, sym, ap, ◌∙◌, arith, Some}
use Rattle.std.proofs.lemmas.List.{length-map}
use Rattle.std.specs.List.{slice_get}
use Rattle.std.specs.Option.{option_map}
use Rattle.std.proofs.lemmas.Option.{slice_get-map, slice_get_read}
use Rattle.wire_net.specs.Keeping.{item_in}
use Rattle.wire_net.proofs.memory_door.MemDoor.written.Goals as goal

pub returns : goal.returns
returns c =
    let done = c.self.inside.done.items in
    let short : c.args.at < length done = omega (arith, c.requires, ap (λ s. length s.done) c.self.view_is, length-map done item_in) in (
      item_in c.index.result.now,
      ap (λ s. slice_get s.done c.args.at) (sym c.self.view_is)
          ∙ slice_get-map item_in done c.args.at
          ∙ ap (option_map item_in) (slice_get_read done (length done) c.args.at c.index.result.now refl short c.index.ensures),
      ap Some (sym c.as_slice.ensures),
    )
