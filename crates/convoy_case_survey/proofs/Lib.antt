mod MoreCases
