use Rattle.ltl_check.proofs.path_search.PathSearch.picks.Given as goal

abbrev pub decreases-back : goal.decreases-back
decreases-back g l = l.at
