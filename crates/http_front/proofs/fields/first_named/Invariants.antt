use Rattle.std.proofs.Common.{◌≡◌, map, drop}
use Rattle.http_front.specs.Fields.{first_named}
use Rattle.httparse.specs.Spans.{header_bytes}
use Rattle.http_front.proofs.fields.first_named.Given as goal

abbrev pub invariant-loop-field : goal.invariant-loop-field
invariant-loop-field l = first_named l.name (map (header_bytes l.head) l.fields) ≡ first_named l.name (map (header_bytes l.head) (drop l.field-index l.fields))
