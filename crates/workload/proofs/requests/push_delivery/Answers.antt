use Rattle.std.proofs.Common.{codes, replicate}
use Rattle.workload.specs.Texts.{numbered}
use Rattle.workload.proofs.Joining.{appended_twice}
use Rattle.workload.proofs.requests.push_delivery.Goals as goal

pub returns : goal.returns
returns c = appended_twice c.push_letters.result c.args.out.now.items c.push_numbered.new.out.items c.push_letters.new.out.items
    (numbered (codes "request=quotad_deliver\naccount=main\nmailbox=INBOX\noctets=") c.args.octets (codes "\n\n")) (replicate c.args.octets 120)
    c.in_ok-push_numbered.ensures c.push_letters.ensures
