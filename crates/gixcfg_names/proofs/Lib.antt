mod Lists
mod Sets
