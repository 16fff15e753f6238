mod NewRows
