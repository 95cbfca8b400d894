use Rattle.gitconf_merge.proofs.outline.start_of_lead.Given as goal

abbrev pub decreases-loop-lead : goal.decreases-loop-lead
decreases-loop-lead l = l.lead
