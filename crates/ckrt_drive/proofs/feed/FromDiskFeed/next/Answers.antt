use Rattle.std.proofs.Common.{rules, ◌≡◌, ◌-◌, ◌<◌, ◌^◌, ◌∙◌, min, take, drop, ap, sym}
use Rattle.ckrt_schedule.specs.Next.{next_input}
use Rattle.ckrt_drive.proofs.GivenLemmas.{fewer, sum_small, window_bytes}
use Rattle.ckrt_drive.proofs.feed.FromDiskFeed.next.Goals as goal

pub returns-clause-given : goal.returns-clause-given
returns-clause-given g c = λ honest.
    let disk = c.args.self.now.disk in
    let content = g.I.Disk.content disk in
    let size = c.size-size.result in
    let is : size ≡ g.I.Disk.size disk = search rules in
    let place : c.min-at.result ≡ min c.args.taken size = search rules in
    let many : c.min-count.result ≡ min (size - c.min-at.result) 64 = search rules in
    let long = g.met.I.Disk.whole disk (c.given_at.ensures.honest honest) ∙ sym is in
    c.in_ok-given.ensures.given honest
    ∙ (ap (λ n. next_input c.args.tables.now (take n (drop c.min-at.result content))) many
    ∙ (ap (λ n. next_input c.args.tables.now (take (min (size - n) 64) (drop n content))) place ∙ window_bytes c.args.tables.now content c.args.taken size long))

pub returns-clause-few : goal.returns-clause-few
returns-clause-few g c =
    let size = c.size-size.result in
    let place : c.min-at.result ≡ min c.args.taken size = search rules in
    let many : c.min-count.result ≡ min (size - c.min-at.result) 64 = search rules in
    let small : size < 2 ^ 64 = search rules in
    fewer c.in_ok-given.given c.args.taken c.min-count.result c.in_ok-given.ensures.few (sum_small c.args.taken size c.min-at.result c.min-count.result place many c.ranges.taken.fits small)
