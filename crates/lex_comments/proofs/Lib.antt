mod CloneLemmas
