mod Collections
