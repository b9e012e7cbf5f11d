use Rattle.std.proofs.Common.{◌≡◌, map, drop}
use Rattle.std.specs.List.{list_all}
use Rattle.http_front.specs.Fields.{is_short}
use Rattle.httparse.specs.Spans.{header_bytes}
use Rattle.http_front.proofs.fields.has_short_lengths.Given as goal

abbrev pub invariant-loop-field : goal.invariant-loop-field
invariant-loop-field l = list_all is_short (map (header_bytes l.head) l.fields) ≡ list_all is_short (map (header_bytes l.head) (drop l.field-index l.fields))
