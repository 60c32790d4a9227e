use Rattle.std.proofs.Common.{rules, arith, leb}
use Rattle.std.proofs.lemmas.List.Sorted.{IsPartitionPoint-from_clause, IsPartitionedBy-leb}
use Rattle.dense.proofs.SelectLaws.{count_of, counts_rise, last_mini}
use Rattle.dense.proofs.find_mini.Goals as goal

pub returns : goal.returns
returns c =
    let cut = c.as_chunks.ensures in
    let found = c.partition_point-after.ensures in
    rw c.saturating_sub.ensures (last_mini c.told-part cut.front cut.front_len c.args.k _ (omega (arith, c.told-part, cut.front_len, found.bound))
    (λ ps h.
    IsPartitionPoint-from_clause (λ ten. leb (count_of ten) c.args.k) _ _ found.partitioned
    (IsPartitionedBy-leb count_of _ c.args.k (counts_rise c.told-part cut.front cut.front_len h)) (λ a r f' k. search rules)))
